use Rattle.algebra.proofs.Counts.{few_solutions}
use Rattle.algebra.proofs.Domains.{zero-product}
use Rattle.algebra.proofs.theorems.few_solutions.Goals as goal

pub returns : goal.returns
returns g c = few_solutions g.met.F.Field.laws.ring (zero-product g.met.F.Field.laws) g.met.F.Field.laws.numbered
