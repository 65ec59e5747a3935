-- What a field has because a product is zero only if a factor is. Assumes nothing.
use Rattle.std.proofs.Common.{◌≡◌, ℕ, ◌⊎◌, [], ◌∷◌, sym, refl, ap, ◌∙◌, inl, inr, arith}
use Rattle.std.proofs.lemmas.Bool.{cases_eq}
use Rattle.algebra.specs.Fields.{Ops, Ring, Numbered, Laws, ZeroProduct}
use Rattle.algebra.specs.Rings.{var, ◌⊕◌, ◌⊗◌, neg}
use Rattle.algebra.specs.Sums.{minus}
use Rattle.algebra.proofs.Equations.{ring, zero-plus, one-times, times_zero}

-- elements with one number are one
module _ {F : Type 0} {o : Ops F} (numbered : Numbered o) where
  pub number_same : (x y : F) → o.number x ≡ o.number y → x ≡ y
  number_same x y e = sym (numbered.element-number x) ∙ ap o.element e ∙ numbered.element-number y

  pub number_is-zero : (x : F) → o.number x ≡ 0 → x ≡ o.zero
  number_is-zero x e = number_same x o.zero (e ∙ sym numbered.number-zero)

  pub zero_or : (x : F) → (x ≡ o.zero) ⊎ (x ≡ o.zero → ⊥)
  zero_or x =
      elim (cases_eq (o.number x) 0) [
        | inl e ↦ inl (number_is-zero x e)
        | inr ne ↦ inr (λ e. ne (ap o.number e ∙ numbered.number-zero))
      ]

  pub one_not_zero : o.one ≡ o.zero → ⊥
  one_not_zero e = let z : ◌≡◌ {A = ℕ} 1 0 = sym numbered.number-one ∙ ap o.number e ∙ numbered.number-zero in omega arith

-- the inverse gives it
module _ {F : Type 0} {o : Ops F} (laws : Laws o) where
  pub zero-product : ZeroProduct o
  zero-product x y e =
      elim (zero_or laws.numbered x) [
        | inl z ↦ inl z
        | inr ne ↦ inr (
            sym (one-times laws.ring y) ∙ ap (λ (t : F). o.times t y) (sym (laws.times-inverse x ne))
            ∙ ring laws.ring (x ∷ o.inverse x ∷ y ∷ []) ((var 0 ⊗ var 1) ⊗ var 2) (var 1 ⊗ (var 0 ⊗ var 2)) refl
            ∙ ap (o.times (o.inverse x)) e ∙ times_zero laws.ring (o.inverse x))
      ]

module _ {F : Type 0} {o : Ops F} (laws : Ring o) where
  pub minus-zero : (x y : F) → minus o x y ≡ o.zero → x ≡ y
  minus-zero x y e =
      ring laws (x ∷ y ∷ []) (var 0) ((var 0 ⊕ neg (var 1)) ⊕ var 1) refl
      ∙ ap (λ (t : F). o.plus t y) e ∙ zero-plus laws y

  module _ (domain : ZeroProduct o) where
    -- the other factor is zero
    pub no_divisors : (x y : F) → (x ≡ o.zero → ⊥) → o.times x y ≡ o.zero → y ≡ o.zero
    no_divisors x y ne e = elim (domain x y e) [ inl z ↦ absurd (ne z) | inr z ↦ z ]

    -- a factor that is not zero cancels
    pub cancel : (c g h : F) → (c ≡ o.zero → ⊥) → o.times g c ≡ o.times h c → g ≡ h
    cancel c g h ne e =
        minus-zero g h
        (no_divisors c (minus o g h) ne
        (ring laws (c ∷ g ∷ h ∷ []) (var 0 ⊗ (var 1 ⊕ neg (var 2))) (var 1 ⊗ var 0 ⊕ neg (var 2 ⊗ var 0)) refl
        ∙ ap (λ (t : F). o.plus t (o.negate (o.times h c))) e ∙ laws.plus-negate (o.times h c)))
