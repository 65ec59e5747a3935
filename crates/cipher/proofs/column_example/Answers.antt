use Rattle.std.proofs.Common.{refl}
use Rattle.algebra.specs.Gf256.{double, product_of, times}
use Rattle.cipher.specs.Word.{mix_column}
use Rattle.cipher.proofs.column_example.Goals as goal

pub returns : goal.returns
unfolding double product_of times mix_column
returns c = refl
