-- Horner's rule at all places at once. Assumes nothing.
use Rattle.std.proofs.Common.{◌≡◌, ℕ, zero, suc, ◌+◌, ◌<◌, List, [], ◌∷◌, ◌++◌, length, get_or, drop, sym, refl, ap, ◌∙◌, arith}
use Rattle.std.proofs.lemmas.List.{drop_all}
use Rattle.algebra.specs.Fields.{Ops, Ring}
use Rattle.algebra.specs.Rings.{var, O, ◌⊕◌, ◌⊗◌}
use Rattle.algebra.specs.Sums.{eval_of}
use Rattle.algebra.proofs.Equations.{ring}
use Rattle.lock.specs.Instances.{listed}
use Rattle.weight.specs.Places.{risen}
use Rattle.weight.proofs.Placed.{left_is, listed_same}

module _ {F : Type 0} (o : Ops F) where
  risen-listed : (c : F) (f : ℕ → F) (i n : ℕ) → risen o c i (listed f i n) ≡ listed (λ j. o.plus c (o.times (o.element j) (f j))) i n
  risen-listed c f i zero = refl
  risen-listed c f i (suc n) = ap (λ (l : List F). o.plus c (o.times (o.element i) (f i)) ∷ l) (risen-listed c f (suc i) n)

  -- the value at each of n places of a polynomial with the leading coefficient s
  abbrev pub valued : List F → F → ℕ → List F
  valued cs s n = listed (λ j. eval_of o (cs ++ (s ∷ [])) (o.element j)) 0 n

  -- a step at all places takes one coefficient more
  pub value_more : (cs : List F) (s : F) (n t : ℕ) (c : F) (was now : List F) → t < length cs → c ≡ get_or cs t c → was ≡ valued (drop (t + 1) cs) s n
      → now ≡ risen o c 0 was → now ≡ valued (drop t cs) s n
  value_more cs s n t c was now h e ew en =
      en ∙ ap (risen o c 0) ew ∙ risen-listed c (λ j. eval_of o (drop (t + 1) cs ++ (s ∷ [])) (o.element j)) 0 n
      ∙ sym (ap (λ (l : List F). valued l s n) (left_is t cs c h e))

module _ {F : Type 0} {o : Ops F} (laws : Ring o) where
  -- no coefficient but the leading one
  pub value_none : (cs : List F) (s : F) (n : ℕ) (out : List F) → out ≡ listed (λ _. s) 0 n → out ≡ valued o (drop (length cs) cs) s n
  value_none cs s n out e =
      e ∙ listed_same (λ _. s) (λ j. eval_of o (s ∷ []) (o.element j)) 0 n (λ j lo hi. ring laws (s ∷ o.element j ∷ []) (var 0) (var 0 ⊕ var 1 ⊗ O) refl)
      ∙ sym (ap (λ (l : List F). valued o l s n) (drop_all (length cs) cs (omega arith)))
