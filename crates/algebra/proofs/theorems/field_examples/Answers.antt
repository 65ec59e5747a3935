use Rattle.std.proofs.Common.{refl}
use Rattle.algebra.specs.Gf256.{double, product_of, times}
use Rattle.algebra.proofs.theorems.field_examples.Goals as goal

pub returns-clause-product : goal.returns-clause-product
unfolding times product_of double
returns-clause-product c = refl
