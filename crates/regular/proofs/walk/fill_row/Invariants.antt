use Rattle.std.proofs.Common.{length}
use Rattle.regular.proofs.Walks.{Row}
use Rattle.regular.proofs.walk.fill_row.Given as goal

abbrev pub invariant-loop-t : goal.invariant-loop-t
invariant-loop-t g l = Row (g.V.View.value l.view) l.i (length l.initial.out) l.t l.out
