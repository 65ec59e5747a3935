use Rattle.lock.proofs.Products.{Adding}
use Rattle.lock.proofs.word.add_columns.Given as goal

abbrev pub invariant-loop-factor : goal.invariant-loop-factor
invariant-loop-factor g l = Adding g.F.Field.ops l.matrix l.factors l.initial.sums l.rows l.factor-index l.rest l.sums
