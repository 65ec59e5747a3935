use Rattle.lock.specs.Instances.{item}
use Rattle.lock.proofs.Listed.{Below}
use Rattle.weight.proofs.equations.crossings.Given as goal

abbrev pub invariant-loop-j : goal.invariant-loop-j
invariant-loop-j g l =
    let o = g.F.Field.ops in
    Below (λ j. o.plus (o.times (item o l.one.word.now j) (item o l.zero.locators.now j)) (o.times (item o l.zero.word.now j) (item o l.one.locators.now j))) o.zero l.j l.out
