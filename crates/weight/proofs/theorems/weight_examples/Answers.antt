use Rattle.std.proofs.Common.{◌≡◌, ℕ, zero, suc, [], ◌∷◌, refl, ap, arith, lit<}
use Rattle.algebra.specs.Prime.{at, prime}
use Rattle.algebra.specs.declared.elements.Mod251.{Mod251}
use Rattle.algebra.specs.Primes.{same}
use Rattle.lock.specs.Instances.{word}
use Rattle.weight.specs.Weight.{Located}
use Rattle.weight.specs.Examples.{example}
use Rattle.weight.proofs.theorems.weight_examples.Goals as goal

located : Located prime example (at 0 ∷ at 250 ∷ [])
unfolding word
located zero h ne = absurd (ne (same _ _ refl))
located (suc zero) h ne = same _ _ refl
located (suc (suc zero)) h ne = absurd (ne (same _ _ refl))
located (suc (suc (suc i))) h ne = absurd (omega arith)

five : at 5 ≡ at 0 → ⊥
five e = let z : ◌≡◌ {A = ℕ} 5 0 = ap (λ (x : Mod251). x.value) e in omega arith

astray : Located prime example (at 0 ∷ at 0 ∷ []) → ⊥
unfolding word
astray s = let z : ◌≡◌ {A = ℕ} 1 0 = ap (λ (x : Mod251). x.value) (s 1 (lit< tt) five) in omega arith

pub returns : goal.returns
returns c = record { solves = located; fails = astray }
