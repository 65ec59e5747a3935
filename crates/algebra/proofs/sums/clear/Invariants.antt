use Rattle.std.proofs.Common.{◌≡◌, ◌++◌, drop, replicate}
use Rattle.algebra.proofs.sums.clear.Given as goal

abbrev pub invariant-loop-x : goal.invariant-loop-x
invariant-loop-x g l = l.elements ≡ replicate l.x-index g.F.Field.ops.zero ++ drop l.x-index l.initial.elements
