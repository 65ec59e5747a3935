use Rattle.std.proofs.Common.{◌≡◌, ◌++◌, take, drop}
use Rattle.weight.specs.Places.{risen}
use Rattle.weight.proofs.locator.horner_step.Given as goal

abbrev pub invariant-loop-j : goal.invariant-loop-j
invariant-loop-j g l =
    let o = g.F.Field.ops in
    take l.j l.out ++ risen o l.coefficient l.j (drop l.j l.out) ≡ risen o l.coefficient 0 l.initial.out
