use Rattle.algebra.proofs.Equations.{ring}
use Rattle.algebra.proofs.theorems.ring_equations.Goals as goal

pub returns : goal.returns
returns g c = ring g.met.F.Field.laws.ring
