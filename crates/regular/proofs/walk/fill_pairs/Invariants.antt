use Rattle.regular.proofs.Walks.{Pairs}
use Rattle.regular.proofs.walk.fill_pairs.Given as goal

abbrev pub invariant-loop-i : goal.invariant-loop-i
invariant-loop-i g l = Pairs (g.V.View.value l.view) l.fn.block.start l.fn.block.size l.i l.at l.out
