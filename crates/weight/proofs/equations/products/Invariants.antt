use Rattle.lock.specs.Instances.{item}
use Rattle.lock.proofs.Listed.{Below}
use Rattle.weight.proofs.equations.products.Given as goal

abbrev pub invariant-loop-j : goal.invariant-loop-j
invariant-loop-j g l = let o = g.F.Field.ops in Below (λ j. o.times (item o l.parts.word.now j) (item o l.parts.locators.now j)) o.zero l.j l.out
