use Rattle.algebra.proofs.Linear.{sums_linear}
use Rattle.algebra.proofs.theorems.sums_linear.Goals as goal

pub returns : goal.returns
returns g c = sums_linear g.met.F.Field.laws.ring
