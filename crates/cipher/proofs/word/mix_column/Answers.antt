use Rattle.cipher.proofs.Products.{pairs-mixed}
use Rattle.cipher.proofs.word.mix_column.Goals as goal

pub returns : goal.returns
returns c = let all = pairs-mixed c.args.column.now c.fits-column in cc
