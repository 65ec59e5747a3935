-- The regular lock is linear along lines, and is solved exactly where all its equations are zero. Assumes nothing.
use Rattle.std.specs.Prelude.{◌≡◌, ℕ, zero, suc, ◌+◌, ◌*◌, ◌<◌, ◌≤◌, List, [], ◌∷◌, ◌++◌, ◌≢◌, refl}
use Rattle.std.proofs.Common.{sym, ap, subst, ◌∙◌, inl, inr, suc-mul, zero-mul, le_refl, arith}
use Rattle.std.specs.List.{AllByRecursion}
use Rattle.std.proofs.lemmas.List.Elements.{All-from_get_or, All-from_recursion, All-get_or, recursion_from_All}
use Rattle.std.proofs.lemmas.Bool.{cases_eq}
use Rattle.algebra.specs.Fields.{Ops, Ring, Numbered, ZeroProduct}
use Rattle.algebra.specs.Rings.{O, I, ◌⊕◌, ◌⊗◌, neg}
use Rattle.algebra.specs.Sums.{sum_from, minus}
use Rattle.algebra.proofs.Domains.{zero_or, one_not_zero, no_divisors, minus-zero}
use Rattle.algebra.proofs.Equations.{ring, zero-plus, times_zero, zero-times, one-times}
use Rattle.lock.specs.Instances.{Problem, word, coordinate}
use Rattle.lock.specs.Linear.{Linear}
use Rattle.lock.specs.Locks.{OnLines, Opens}
use Rattle.lock.proofs.Linear.{product_line, coordinate_linear, level_linear, plus_linear, negate_linear, sum_linear}
use Rattle.lock.proofs.Places.{sum-zero, sum_single}
use Rattle.regular.specs.Counts.{length-blocks}
use Rattle.regular.specs.Regular.{Equation, whole, pair, pairs_with, pairs, block, blocks, triangle, side, equation, first, second, worth, OneHot, Blocked, regular}

-- ---- what holds of each member of a list

module _ {X : Type 0} (P : X → Type 0) where
  all_append : (xs ys : List X) → AllByRecursion P xs → AllByRecursion P ys → AllByRecursion P (xs ++ ys)
  all_append [] ys a b = b
  all_append (x ∷ xs) ys a b = (a.0, all_append xs ys a.1 b)

  all_front : (xs ys : List X) → AllByRecursion P (xs ++ ys) → AllByRecursion P xs
  all_front [] ys a = tt
  all_front (x ∷ xs) ys a = (a.0, all_front xs ys a.1)

  all_back : (xs ys : List X) → AllByRecursion P (xs ++ ys) → AllByRecursion P ys
  all_back [] ys a = a
  all_back (x ∷ xs) ys a = all_back xs ys a.1

-- ---- along a line

module _ {F : Type 0} {o : Ops F} (laws : Ring o) where
  first_linear : (n : ℕ) (p : Problem F) (e : Equation) → Linear o n (λ s u. first o s (word o p s u) e)
  first_linear n p (whole i c) = level_linear laws n
  first_linear n p (pair i j) = coordinate_linear laws n p i

  second_linear : (n : ℕ) (p : Problem F) (e : Equation) → Linear o n (λ s u. second o s (word o p s u) e)
  second_linear n p (whole i c) =
      plus_linear laws n (λ s u. sum_from o (λ t. coordinate o p t s u) i c) (λ s u. o.negate s)
      (sum_linear laws n (coordinate o p) (coordinate_linear laws n p) i c) (negate_linear laws n (λ s u. s) (level_linear laws n))
  second_linear n p (pair i j) = coordinate_linear laws n p j

  pub regular_lines : OnLines o (regular o)
  regular_lines = record {
    line = λ p j x u v h lu lv.
        let e = equation p.shape j in
        product_line laws p.shape.k (λ s u. first o s (word o p s u) e) (λ s u. second o s (word o p s u) e)
        (first_linear p.shape.k p e) (second_linear p.shape.k p e) x u v lu lv;
    free = λ s. le_refl s.k;
  }

module _ {F : Type 0} {o : Ops F} (laws : Ring o) (numbered : Numbered o) (domain : ZeroProduct o) where
  module _ (p : Problem F) (u : List F) where
    abbrev x : ℕ → F
    x t = coordinate o p t o.one u

    -- the equation is zero at level one
    abbrev Zero : Equation → Type 0
    Zero e = worth o o.one (word o p o.one u) e ≡ o.zero

    -- ---- from zeros to one [1]

    partners : (i j n : ℕ) → (x i ≢ o.zero) → AllByRecursion Zero (pairs_with i j n) → (r : ℕ) → j ≤ r → r < j + n → x r ≡ o.zero
    partners i j zero ne a r lo hi = absurd (omega arith)
    partners i j (suc n) ne a r lo hi =
        elim (cases_eq j r) [
          | inl e ↦ ap x (sym e) ∙ no_divisors laws domain (x i) (x j) ne a.0
          | inr d ↦ partners i (suc j) n ne a.1 r (omega arith) (omega arith)
        ]

    one-hot : (i n : ℕ) → sum_from o x i n ≡ o.one → AllByRecursion Zero (pairs i n) → OneHot o x i n
    one-hot i zero s a = absurd (one_not_zero numbered (sym s))
    one-hot i (suc n) s a =
        elim (zero_or numbered (x i)) [
          | inl z ↦
              let rest : sum_from o x (suc i) n ≡ o.one =
              sym (zero-plus laws (sum_from o x (suc i) n)) ∙ ap (λ (t : F). o.plus t (sum_from o x (suc i) n)) (sym z) ∙ s in
              let h = one-hot (suc i) n rest (all_back Zero (pairs_with i (suc i) n) (pairs (suc i) n) a) in
              let lo = h.1 in
              let hi = h.2 in (
                h.0,
                omega arith,
                omega arith,
                h.3,
                λ r b c ne.
                    elim (cases_eq i r) [ inl e ↦ ap x (sym e) ∙ z | inr d ↦ h.4 r (omega arith) (omega arith) ne ],
              )
          | inr ne ↦
              let rest = partners i (suc i) n ne (all_front Zero (pairs_with i (suc i) n) (pairs (suc i) n) a) in
              let one : x i ≡ o.one = sym (laws.plus-zero (x i)) ∙ ap (o.plus (x i)) (sym (sum-zero laws x (suc i) n rest)) ∙ s in
              (i, omega arith, omega arith, one, λ r b c d. rest r (omega arith) (omega arith))
        ]

    block-hot : (i n : ℕ) → AllByRecursion Zero (block i n) → OneHot o x i n
    block-hot i n a =
        one-hot i n
        (minus-zero laws (sum_from o x i n) o.one (sym (one-times laws (minus o (sum_from o x i n) o.one)) ∙ a.0))
        a.1

    -- ---- and back

    pairs_with-zero : (i j n : ℕ) → ((r : ℕ) → j ≤ r → r < j + n → o.times (x i) (x r) ≡ o.zero) → AllByRecursion Zero (pairs_with i j n)
    pairs_with-zero i j zero f = tt
    pairs_with-zero i j (suc n) f = (f j (omega arith) (omega arith), pairs_with-zero i (suc j) n (λ r lo hi. f r (omega arith) (omega arith)))

    pairs-zero : (i n : ℕ) → ((a b : ℕ) → i ≤ a → a < b → b < i + n → o.times (x a) (x b) ≡ o.zero) → AllByRecursion Zero (pairs i n)
    pairs-zero i zero f = tt
    pairs-zero i (suc n) f =
        all_append Zero (pairs_with i (suc i) n) (pairs (suc i) n) (pairs_with-zero i (suc i) n (λ r lo hi. f i r (omega arith) (omega arith) (omega arith)))
        (pairs-zero (suc i) n (λ a b h lo hi. f a b (omega arith) lo (omega arith)))

    block-zero : (i n : ℕ) → OneHot o x i n → AllByRecursion Zero (block i n)
    block-zero i n (t, lo, hi, one, others) = (
      ap (λ (s : F). o.times o.one (minus o s o.one)) (sum_single laws x i n t lo hi others ∙ one) ∙ ring laws [] (I ⊗ (I ⊕ neg I)) O refl,
      pairs-zero i n (λ a b ia ab bn.
          elim (cases_eq a t) [
            | inl e ↦ ap (o.times (x a)) (others b (omega arith) bn (λ q. omega arith)) ∙ times_zero laws (x a)
            | inr d ↦ ap (λ (s : F). o.times s (x b)) (others a ia (omega arith) d) ∙ zero-times laws (x b)
          ]),
    )

    -- ---- all blocks

    blocks-hot : (n i c : ℕ) → AllByRecursion Zero (blocks n i c) → (b : ℕ) → b < c → OneHot o x (i + b * n) n
    blocks-hot n i zero a b h = absurd (omega arith)
    blocks-hot n i (suc c) a zero h =
        subst (λ (j : ℕ). OneHot o x j n) (omega (arith, zero-mul n)) (block-hot i n (all_front Zero (block i n) (blocks n (i + n) c) a))
    blocks-hot n i (suc c) a (suc b) h =
        subst (λ (j : ℕ). OneHot o x j n) (omega (arith, suc-mul b n))
        (blocks-hot n (i + n) c (all_back Zero (block i n) (blocks n (i + n) c) a) b (omega arith))

    blocks-zero : (n i c : ℕ) → ((b : ℕ) → b < c → OneHot o x (i + b * n) n) → AllByRecursion Zero (blocks n i c)
    blocks-zero n i zero f = tt
    blocks-zero n i (suc c) f =
        all_append Zero (block i n) (blocks n (i + n) c)
        (block-zero i n (subst (λ (j : ℕ). OneHot o x j n) (omega (arith, zero-mul n)) (f 0 (omega arith))))
        (blocks-zero n (i + n) c (λ b h. subst (λ (j : ℕ). OneHot o x j n) (omega (arith, suc-mul b n)) (f (suc b) (omega arith))))

    abbrev n : ℕ
    n = side p.shape

    abbrev w : ℕ
    w = p.shape.w

    solved : ((j : ℕ) → j < w * (1 + triangle n) → Zero (equation p.shape j)) → Blocked o p u
    solved f b h =
        let long = length-blocks n 0 w in
        let z : 0 + b * n ≡ b * n = omega arith in
        subst (λ (j : ℕ). OneHot o x j n) z
        (blocks-hot n 0 w (recursion_from_All Zero (blocks n 0 w) (All-from_get_or Zero (blocks n 0 w) (pair 0 0) (λ j l. f j (omega arith)))) b h)

    zeros : Blocked o p u → (j : ℕ) → j < w * (1 + triangle n) → Zero (equation p.shape j)
    zeros s j h =
        let long = length-blocks n 0 w in
        All-get_or Zero (blocks n 0 w) j (pair 0 0) (omega arith)
        (All-from_recursion Zero (blocks n 0 w)
        (blocks-zero n 0 w (λ b l. let z : b * n ≡ 0 + b * n = omega arith in subst (λ (j : ℕ). OneHot o x j n) z (s b l))))

  pub regular_opens : Opens o (regular o)
  regular_opens = record { solved = λ p u l f. solved p u f; zeros = λ p u l s j h. zeros p u s j h }
