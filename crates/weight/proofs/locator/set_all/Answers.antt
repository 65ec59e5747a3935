use Rattle.std.proofs.Common.{arith}
use Rattle.lock.proofs.Listed.{is-listed_all}
use Rattle.weight.proofs.locator.set_all.Goals as goal

pub returns : goal.returns
returns g c = is-listed_all (λ _. c.args.element) _ c.loop-x.out c.args.element (omega arith) (λ t h. c.loop-x.invariant t (omega arith))
