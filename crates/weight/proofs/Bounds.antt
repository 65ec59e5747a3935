-- A word that the weight lock admits is zero but at the roots of Q. Assumes nothing.
use Rattle.std.proofs.Common.{◌≡◌, ℕ, ◌+◌, ◌<◌, ◌≤◌, List, [], ◌∷◌, ◌++◌, map, length, drop, sym, ap, subst, ◌∙◌, inl, inr, arith}
use Rattle.std.specs.List.{AllByRecursion}
use Rattle.std.proofs.lemmas.List.{length_push, length-drop, length-map}
use Rattle.std.proofs.lemmas.Bool.{cases_lt}
use Rattle.algebra.specs.Fields.{Ops, Laws}
use Rattle.algebra.specs.Sums.{eval_of}
use Rattle.algebra.proofs.Domains.{one_not_zero, zero-product}
use Rattle.algebra.proofs.Roots.{few_roots}
use Rattle.theory.specs.Distinct.{Distinct}
use Rattle.lock.specs.Instances.{Problem, item, word}
use Rattle.lock.proofs.Words.{length_word, words_satisfy}
use Rattle.weight.specs.Theorems.{NotZero, WeightBound}
use Rattle.weight.specs.Weight.{Located}
use Rattle.weight.proofs.Nonzeros.{places, distinct-places, length-places, places-nonzero}

last_of : {X : Type 0} (P : X → Type 0) (xs : List X) (x : X) → AllByRecursion P (xs ++ (x ∷ [])) → P x
last_of P [] x a = a.0
last_of P (y ∷ xs) x a = last_of P xs x a.1

module _ {F : Type 0} {o : Ops F} (laws : Laws o) where
  element-one : (i j : ℕ) → i < o.size → j < o.size → o.element i ≡ o.element j → i ≡ j
  element-one i j hi hj e = sym (laws.numbered.number_element i hi) ∙ ap o.number e ∙ laws.numbered.number_element j hj

  module _ (p : Problem F) (u : List F) (few : p.shape.m ≤ o.size) (solved : Located o p u) where
    abbrev Live : ℕ → Type 0
    Live = NotZero o p (word o p o.one u)

    apart : (i : ℕ) (is : List ℕ) → i < p.shape.m → AllByRecursion Live is → AllByRecursion (λ j. i ≡ j → ⊥) is → AllByRecursion (λ y. o.element i ≡ y → ⊥) (map o.element is)
    apart i [] h a d = tt
    apart i (j ∷ is) h a d =
        let hj = a.0.0 in
        (λ e. d.0 (element-one i j (omega arith) (omega arith) e), apart i is h a.1 d.1)

    distinct : (is : List ℕ) → AllByRecursion Live is → Distinct is → Distinct (map o.element is)
    distinct [] a d = tt
    distinct (i ∷ is) a d = (apart i is a.0.0 a.1 d.0, distinct is a.1 d.1)

    located_roots : (is : List ℕ) → AllByRecursion Live is → AllByRecursion (λ y. eval_of o (drop p.shape.k u ++ (o.one ∷ [])) y ≡ o.zero) (map o.element is)
    located_roots [] a = tt
    located_roots (i ∷ is) a = (solved i a.0.0 a.0.1, located_roots is a.1)

    -- more places than w would make Q zero, and its leading coefficient is one
    too_many : (is : List ℕ) → length u ≡ p.shape.k + p.shape.w → AllByRecursion Live is → Distinct is → p.shape.w < length is → ⊥
    too_many is l a d h =
        let low = drop p.shape.k u in
        let cs = low ++ (o.one ∷ []) in
        let long : length cs ≤ length (map o.element is) =
        omega (arith, length_push (drop p.shape.k u) o.one, length-drop p.shape.k u, length-map is o.element) in
        one_not_zero laws.numbered
        (last_of (λ c. c ≡ o.zero) low o.one
        (few_roots laws.ring (zero-product laws) cs (map o.element is) (distinct is a d) (located_roots is a) long))

    few-places : (is : List ℕ) → length u ≡ p.shape.k + p.shape.w → AllByRecursion Live is → Distinct is → length is ≤ p.shape.w
    few-places is l a d =
        elim (cases_lt p.shape.w (length is)) [
          | inl more ↦ absurd (too_many is l a d more)
          | inr enough ↦ enough
        ]

  pub weight_bound : WeightBound o
  weight_bound p u km few l solved =
      let x = word o p o.one u in
      let wide : p.shape.m ≤ o.size = omega (arith, laws.size_low) in
      let long = length_word o p o.one u in
      let live = subst (λ (m : ℕ). AllByRecursion (λ j. (j < m) × (item o x j ≡ o.zero → ⊥)) (places o 0 x)) long (places-nonzero o laws.numbered x) in
      record {
        satisfies = words_satisfy laws.ring p u km;
        few = λ is d a. few-places p u wide solved is l a d;
        weighs = omega (arith, length-places o 0 x, few-places p u wide solved (places o 0 x) l live (distinct-places o 0 x));
      }
