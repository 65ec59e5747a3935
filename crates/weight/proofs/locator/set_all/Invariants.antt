use Rattle.lock.proofs.Listed.{Below}
use Rattle.weight.proofs.locator.set_all.Given as goal

abbrev pub invariant-loop-x : goal.invariant-loop-x
invariant-loop-x g l = Below (λ _. l.element) l.element l.x-index l.out
