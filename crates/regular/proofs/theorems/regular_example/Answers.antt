use Rattle.std.proofs.Common.{[], ◌∷◌, refl}
use Rattle.algebra.specs.Prime.{prime, at}
use Rattle.algebra.specs.Sums.{total}
use Rattle.algebra.specs.Primes.{same}
use Rattle.regular.proofs.theorems.regular_example.Goals as goal

pub returns : goal.returns
returns c =
    record {
      sum = same (total prime (at 2 ∷ at 250 ∷ [])) (at 1) refl;
      product = same (prime.times (at 2) (at 250)) (at 249) refl;
      cold = refl;
    }
