-- The places of the elements that are not zero: they are different, and as many as the weight. Assumes nothing.
use Rattle.std.proofs.Common.{◌≡◌, ℕ, suc, ◌+◌, ◌<◌, Bool, true, false, cond, not, List, [], ◌∷◌, length, drop, sym, refl, ap, ◌∙◌, add-zero, add-one, arith}
use Rattle.std.specs.List.{AllByRecursion}
use Rattle.std.proofs.lemmas.List.{get_or-drop, drop-drop, length-drop}
use Rattle.std.proofs.lemmas.List.Sums.{sum_by-cons}
use Rattle.std.proofs.lemmas.Bool.{eq-eqb, both_ways}
use Rattle.algebra.specs.Fields.{Ops, Numbered}
use Rattle.theory.specs.Distinct.{Distinct}
use Rattle.lock.specs.Instances.{item}
use Rattle.weight.specs.Roots.{nonzero, weight_of}

all-cond : (P : ℕ → Type 0) (b : Bool) (i : ℕ) (is : List ℕ) → (b ≡ true → P i) → AllByRecursion P is → AllByRecursion P (cond b (i ∷ is) is)
all-cond P true i is p a = (p refl, a)
all-cond P false i is p a = a

distinct_cond : (b : Bool) (i : ℕ) (is : List ℕ) → AllByRecursion (λ j. i ≡ j → ⊥) is → Distinct is → Distinct (cond b (i ∷ is) is)
distinct_cond true i is a d = (a, d)
distinct_cond false i is a d = d

length-cond : (b : Bool) (i : ℕ) (is : List ℕ) → length (cond b (i ∷ is) is) ≡ cond b 1 0 + length is
length-cond true i is = omega arith
length-cond false i is = omega arith

module _ {F : Type 0} (o : Ops F) where
  -- the places of the elements that are not zero, the first place being i
  abbrev pub places : ℕ → List F → List ℕ
  places i [] = []
  places i (x ∷ xs) = cond (nonzero o x) (i ∷ places (suc i) xs) (places (suc i) xs)

  past : (n i : ℕ) (xs : List F) → n < i → AllByRecursion (λ j. n ≡ j → ⊥) (places i xs)
  past n i [] h = tt
  past n i (x ∷ xs) h = all-cond (λ j. n ≡ j → ⊥) (nonzero o x) i (places (suc i) xs) (λ _ e. omega arith) (past n (suc i) xs (omega arith))

  pub distinct-places : (i : ℕ) (xs : List F) → Distinct (places i xs)
  distinct-places i [] = tt
  distinct-places i (x ∷ xs) = distinct_cond (nonzero o x) i (places (suc i) xs) (past i (suc i) xs (omega arith)) (distinct-places (suc i) xs)

  pub length-places : (i : ℕ) (xs : List F) → length (places i xs) ≡ weight_of o xs
  length-places i [] = refl
  length-places i (x ∷ xs) =
      length-cond (nonzero o x) i (places (suc i) xs) ∙ ap (λ (n : ℕ). cond (nonzero o x) 1 0 + n) (length-places (suc i) xs)
      ∙ sym (sum_by-cons (λ y. cond (nonzero o y) 1 0) x xs)

  module _ (numbered : Numbered o) where
    nonzero_is : (x : F) → nonzero o x ≡ true → x ≡ o.zero → ⊥
    nonzero_is x t e = both_ways (nonzero o x) (ap not (eq-eqb (o.number x) 0 (ap o.number e ∙ numbered.number-zero))) t

    places_of : (whole : List F) (i : ℕ) (xs : List F) → drop i whole ≡ xs → AllByRecursion (λ j. (j < length whole) × (item o whole j ≡ o.zero → ⊥)) (places i xs)
    places_of whole i [] e = tt
    places_of whole i (x ∷ xs) e =
        let inside : i < length whole = omega (arith, ap length e, length-drop i whole) in
        let here : item o whole i ≡ x = sym (get_or-drop i whole 0 o.zero ∙ ap (item o whole) (add-zero i)) ∙ ap (λ (l : List F). item o l 0) e in
        let next : drop (suc i) whole ≡ xs = sym (drop-drop 1 i whole ∙ ap (λ (n : ℕ). drop n whole) (add-one i)) ∙ ap (drop 1) e in
        all-cond (λ j. (j < length whole) × (item o whole j ≡ o.zero → ⊥)) (nonzero o x) i (places (suc i) xs)
        (λ t. (inside, λ z. nonzero_is x t (sym here ∙ z))) (places_of whole (suc i) xs next)

    pub places-nonzero : (xs : List F) → AllByRecursion (λ j. (j < length xs) × (item o xs j ≡ o.zero → ⊥)) (places 0 xs)
    places-nonzero xs = places_of xs 0 xs refl
