use Rattle.algebra.proofs.Domains.{zero-product}
use Rattle.algebra.proofs.Roots.{few_roots}
use Rattle.algebra.proofs.theorems.few_roots.Goals as goal

pub returns : goal.returns
returns g c = few_roots g.met.F.Field.laws.ring (zero-product g.met.F.Field.laws)
