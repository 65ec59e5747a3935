-- A list of different numbers below n has at most n of them. Assumes nothing.
use Rattle.std.proofs.Common.{◌≡◌, ℕ, zero, suc, ◌<◌, ◌≤◌, Bool, true, false, eqb, List, [], ◌∷◌, map, length, sym, refl, subst, not-suc-le-zero, arith, eqb-true}
use lib.ListN.{length-map}
use borrow.Author.Tests.{eqb-false}
use Rattle.std.specs.List.{AllByRecursion}
use Rattle.theory.specs.Distinct.{Distinct}
use Rattle.theory.specs.Statements.{FewBelow}

abbrev drop_if : Bool → ℕ → List ℕ → List ℕ → List ℕ
drop_if true x xs r = xs
drop_if false x xs r = x ∷ r

-- the list less its first k
abbrev without : ℕ → List ℕ → List ℕ
without k [] = []
without k (x ∷ xs) = drop_if (eqb x k) x xs (without k xs)

length-drop_if : (b : Bool) (x : ℕ) (xs r : List ℕ) → length xs ≤ suc (length r) → length (x ∷ xs) ≤ suc (length (drop_if b x xs r))
length-drop_if true x xs r h = omega arith
length-drop_if false x xs r h = omega arith

length_without : (k : ℕ) (xs : List ℕ) → length xs ≤ suc (length (without k xs))
length_without k [] = omega arith
length_without k (x ∷ xs) = length-drop_if (eqb x k) x xs (without k xs) (length_without k xs)

all-drop_if : (P : ℕ → Type 0) (b : Bool) (x : ℕ) (xs r : List ℕ) → AllByRecursion P (x ∷ xs) → AllByRecursion P r → AllByRecursion P (drop_if b x xs r)
all-drop_if P true x xs r a h = a.1
all-drop_if P false x xs r a h = (a.0, h)

all_without : (P : ℕ → Type 0) (k : ℕ) (xs : List ℕ) → AllByRecursion P xs → AllByRecursion P (without k xs)
all_without P k [] a = tt
all_without P k (x ∷ xs) a = all-drop_if P (eqb x k) x xs (without k xs) a (all_without P k xs a.1)

distinct-drop_if : (b : Bool) (x : ℕ) (xs r : List ℕ) → Distinct (x ∷ xs) → AllByRecursion (λ y. x ≡ y → ⊥) r → Distinct r → Distinct (drop_if b x xs r)
distinct-drop_if true x xs r d a h = d.1
distinct-drop_if false x xs r d a h = (a, h)

distinct_without : (k : ℕ) (xs : List ℕ) → Distinct xs → Distinct (without k xs)
distinct_without k [] d = tt
distinct_without k (x ∷ xs) d =
    distinct-drop_if (eqb x k) x xs (without k xs) d (all_without (λ y. x ≡ y → ⊥) k xs d.0) (distinct_without k xs d.1)

gone-drop_if : (k : ℕ) (b : Bool) (x : ℕ) (xs r : List ℕ) → eqb x k ≡ b → AllByRecursion (λ y. x ≡ y → ⊥) xs → AllByRecursion (λ y. k ≡ y → ⊥) r → AllByRecursion (λ y. k ≡ y → ⊥) (drop_if b x xs r)
gone-drop_if k true x xs r e a h = subst (λ (n : ℕ). AllByRecursion (λ y. n ≡ y → ⊥) xs) (eqb-true x k e) a
gone-drop_if k false x xs r e a h = (λ p. eqb-false x k e (sym p), h)

gone : (k : ℕ) (xs : List ℕ) → Distinct xs → AllByRecursion (λ y. k ≡ y → ⊥) (without k xs)
gone k [] d = tt
gone k (x ∷ xs) d = gone-drop_if k (eqb x k) x xs (without k xs) refl d.0 (gone k xs d.1)

lower : (n : ℕ) (xs : List ℕ) → AllByRecursion (λ x. x < suc n) xs → AllByRecursion (λ y. n ≡ y → ⊥) xs → AllByRecursion (λ x. x < n) xs
lower n [] a g = tt
lower n (x ∷ xs) a g = (less a.0 g.0, lower n xs a.1 g.1)
  where
    less : x < suc n → (n ≡ x → ⊥) → x < n
    less h ne = omega arith

none_below : (xs : List ℕ) → AllByRecursion (λ x. x < 0) xs → length xs ≤ 0
none_below [] a = omega arith
none_below (x ∷ xs) a = absurd (not-suc-le-zero a.0)

pub pigeonhole : FewBelow
pigeonhole zero xs d a = none_below xs a
pigeonhole (suc n) xs d a =
    let ys = without n xs in
    let few : length ys ≤ n = pigeonhole n ys (distinct_without n xs d) (lower n ys (all_without (λ x. x < suc n) n xs a) (gone n xs d)) in
    omega (arith, length_without n xs)

-- different values of a map that is one-to-one on the list
module _ {X : Type 0} (f : X → ℕ) (P : X → Type 0) (one : (x y : X) → P x → P y → f x ≡ f y → x ≡ y) where
  apart-map : (x : X) (ys : List X) → P x → AllByRecursion P ys → AllByRecursion (λ y. x ≡ y → ⊥) ys → AllByRecursion (λ n. f x ≡ n → ⊥) (map f ys)
  apart-map x [] p a d = tt
  apart-map x (y ∷ ys) p a d = (λ e. d.0 (one x y p a.0 e), apart-map x ys p a.1 d.1)

  distinct-map : (xs : List X) → AllByRecursion P xs → Distinct xs → Distinct (map f xs)
  distinct-map [] a d = tt
  distinct-map (x ∷ xs) a d = (apart-map x xs a.0 a.1 d.0, distinct-map xs a.1 d.1)

  all_map : (n : ℕ) → ((x : X) → P x → f x < n) → (xs : List X) → AllByRecursion P xs → AllByRecursion (λ k. k < n) (map f xs)
  all_map n h [] a = tt
  all_map n h (x ∷ xs) a = (h x a.0, all_map n h xs a.1)

  -- a list of different elements, whose numbers are below n, has at most n
  pub counted : (n : ℕ) → ((x : X) → P x → f x < n) → (xs : List X) → AllByRecursion P xs → Distinct xs → length xs ≤ n
  counted n h xs a d = subst (λ (k : ℕ). k ≤ n) (length-map xs f) (pigeonhole n (map f xs) (distinct-map xs a d) (all_map n h xs a))
