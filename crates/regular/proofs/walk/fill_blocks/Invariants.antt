use Rattle.regular.proofs.Walks.{Blocks}
use Rattle.regular.proofs.walk.fill_blocks.Given as goal

abbrev pub invariant-loop-b : goal.invariant-loop-b
invariant-loop-b g l = Blocks (g.V.View.value l.view) l.size l.count l.b l.out
