use Rattle.std.proofs.Common.{rules}
use Rattle.lock.proofs.Products.{adding_more}
use Rattle.lock.proofs.word.add_columns.Goals as goal

pub loop-factor-preserved : goal.loop-factor-preserved
loop-factor-preserved g c = search (rules, adding_more g.met.F.Field.laws.ring)
