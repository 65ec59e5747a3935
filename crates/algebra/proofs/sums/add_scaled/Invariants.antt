use Rattle.std.proofs.Common.{◌≡◌, ◌++◌, take, drop}
use Rattle.algebra.specs.Sums.{combined}
use Rattle.algebra.proofs.sums.add_scaled.Given as goal

abbrev pub invariant-loop-i : goal.invariant-loop-i
invariant-loop-i g l =
    l.sums ≡ combined g.F.Field.ops l.factor (take l.i l.elements) (take l.i l.initial.sums) ++ drop l.i l.initial.sums
