use Rattle.std.proofs.Common.{◌≡◌, ◌++◌, take, drop}
use Rattle.weight.specs.Roots.{stepped}
use Rattle.weight.proofs.roots.times_root.Given as goal

abbrev pub invariant-loop-coefficient : goal.invariant-loop-coefficient
invariant-loop-coefficient g l =
    let o = g.F.Field.ops in
    let i = l.coefficient-index in
    take i l.coefficients ++ stepped o l.root l.before (drop i l.coefficients) ≡ stepped o l.root o.zero l.initial.coefficients
