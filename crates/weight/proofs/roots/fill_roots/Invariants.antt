use Rattle.weight.proofs.Growing.{Growing}
use Rattle.weight.proofs.roots.fill_roots.Given as goal

abbrev pub invariant-loop-i : goal.invariant-loop-i
invariant-loop-i g l = Growing g.F.Field.ops l.x l.i l.degree l.coefficients
