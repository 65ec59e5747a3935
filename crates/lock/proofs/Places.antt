-- Sums over places. Assumes nothing.
use Rattle.std.proofs.Common.{◌≡◌, ℕ, zero, suc, ◌+◌, ◌<◌, ◌≤◌, refl, ap, ◌∙◌, ap₂, inl, inr, arith}
use Rattle.std.proofs.lemmas.Bool.{cases_eq}
use Rattle.algebra.specs.Fields.{Ops, Ring}
use Rattle.algebra.specs.Sums.{sum_from}
use Rattle.algebra.proofs.Equations.{zero-plus}
use Rattle.algebra.proofs.Linear.{sums_linear}

module _ {F : Type 0} {o : Ops F} (laws : Ring o) where
  module _ (f : ℕ → F) where
    pub sum-zero : (i n : ℕ) → ((r : ℕ) → i ≤ r → r < i + n → f r ≡ o.zero) → sum_from o f i n ≡ o.zero
    sum-zero i zero z = refl
    sum-zero i (suc n) z =
        ap₂ o.plus (z i (omega arith) (omega arith)) (sum-zero (suc i) n (λ r lo hi. z r (omega arith) (omega arith))) ∙ laws.plus-zero o.zero

    -- where all places but one are zero, the sum is that one
    pub sum_single : (i n t : ℕ) → i ≤ t → t < i + n → ((r : ℕ) → i ≤ r → r < i + n → (r ≡ t → ⊥) → f r ≡ o.zero) → sum_from o f i n ≡ f t
    sum_single i zero t lo hi z = absurd (omega arith)
    sum_single i (suc n) t lo hi z =
        elim (cases_eq i t) [
          | inl e ↦ ap₂ o.plus (ap f e) (sum-zero (suc i) n (λ r a b. z r (omega arith) (omega arith) (λ q. omega arith))) ∙ laws.plus-zero (f t)
          | inr ne ↦
              ap₂ o.plus (z i (omega arith) (omega arith) ne)
              (sum_single (suc i) n t (omega arith) (omega arith) (λ r a b q. z r (omega arith) (omega arith) q)) ∙ zero-plus laws (f t)
        ]

    pub sum_split : (i a b : ℕ) → sum_from o f i (a + b) ≡ o.plus (sum_from o f i a) (sum_from o f (i + a) b)
    sum_split i a b = (sums_linear laws).sum_split f i a b

    -- one place more at the end
    pub sum_more : (i n : ℕ) → sum_from o f i (n + 1) ≡ o.plus (sum_from o f i n) (f (i + n))
    sum_more i n = sum_split i n 1 ∙ ap (o.plus (sum_from o f i n)) (laws.plus-zero (f (i + n)))

  pub sum_same : (f g : ℕ → F) (i n : ℕ) → ((r : ℕ) → i ≤ r → r < i + n → f r ≡ g r) → sum_from o f i n ≡ sum_from o g i n
  sum_same f g i zero e = refl
  sum_same f g i (suc n) e = ap₂ o.plus (e i (omega arith) (omega arith)) (sum_same f g (suc i) n (λ r lo hi. e r (omega arith) (omega arith)))
