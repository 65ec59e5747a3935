use Rattle.algebra.proofs.Domains.{zero-product}
use Rattle.algebra.proofs.theorems.zero_product.Goals as goal

pub returns : goal.returns
returns g c = zero-product g.met.F.Field.laws
