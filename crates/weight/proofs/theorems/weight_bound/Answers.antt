use Rattle.weight.proofs.Bounds.{weight_bound}
use Rattle.weight.proofs.theorems.weight_bound.Goals as goal

pub returns : goal.returns
returns g c = weight_bound g.met.F.Field.laws
