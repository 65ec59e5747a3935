use Rattle.std.proofs.Common.{arith}
use Rattle.lock.proofs.Listed.{is-listed_all}
use Rattle.weight.proofs.equations.products.Goals as goal

pub returns : goal.returns
returns g c = is-listed_all _ _ _ g.F.Field.ops.zero (omega arith) (λ t h. c.loop-j.invariant t (omega arith))
