-- Polynomials with given roots: their lengths and their values. Assumes nothing.
use Rattle.std.specs.Prelude.{◌≡◌, ℕ, zero, suc, ◌+◌, ◌<◌, Bool, true, false, cond, List, [], ◌∷◌, ◌++◌, length, slice_index_or, refl}
use Rattle.std.proofs.Common.{ap, ◌∙◌, arith}
use Rattle.std.proofs.lemmas.List.{length_push}
use Rattle.std.proofs.lemmas.List.Sums.{sum_by-cons}
use Rattle.algebra.specs.Fields.{Ops, Ring}
use Rattle.algebra.specs.Rings.{var, O, I, ◌⊕◌, ◌⊗◌, neg}
use Rattle.algebra.specs.Sums.{eval_of, minus}
use Rattle.algebra.proofs.Equations.{ring, zero-plus, zero-times, times_zero}
use Rattle.theory.specs.Loops.{accumulated}
use Rattle.weight.specs.Roots.{nonzero, weight_of, stepped, times_root, rooted_at, rooted}

module _ {F : Type 0} (o : Ops F) where
  length-stepped : (a b : F) (cs : List F) → length (stepped o a b cs) ≡ length cs
  length-stepped a b [] = refl
  length-stepped a b (c ∷ cs) = ap suc (length-stepped a c cs)

  pub length-times_root : (a : F) (cs : List F) → length (times_root o a cs) ≡ length cs + 1
  length-times_root a cs = length-stepped a o.zero (cs ++ (o.one ∷ [])) ∙ length_push cs o.one

  length-rooted_at : (a : F) (cs : List F) (b : Bool) → length (cond b (times_root o a cs) cs) ≡ length cs + cond b 1 0
  length-rooted_at a cs true = length-times_root a cs
  length-rooted_at a cs false = omega arith

  length-accumulated : (cs : List F) (i : ℕ) (xs : List F) → length (accumulated (rooted_at o) cs i xs) ≡ length cs + weight_of o xs
  length-accumulated cs i [] = omega arith
  length-accumulated cs i (x ∷ xs) =
      let rest = length-accumulated (rooted_at o cs i x) (suc i) xs in
      let here = length-rooted_at (o.element i) cs (nonzero o x) in
      let all = sum_by-cons (λ y. cond (nonzero o y) 1 0) x xs in
      omega arith

  -- as many roots as places
  pub length-rooted : (xs : List F) → length (rooted o xs) ≡ weight_of o xs
  length-rooted xs = omega (arith, length-accumulated [] 0 xs)

module _ {F : Type 0} {o : Ops F} (laws : Ring o) where
  -- the value of X^n + ..
  abbrev at : List F → F → F
  at cs y = eval_of o (cs ++ (o.one ∷ [])) y

  stepped_value : (y a b : F) (cs : List F) → at (stepped o a b (cs ++ (o.one ∷ []))) y ≡ o.plus b (o.times (minus o y a) (at cs y))
  stepped_value y a b [] =
      ring laws (y ∷ a ∷ b ∷ [])
      ((var 2 ⊕ neg (var 1 ⊗ I)) ⊕ var 0 ⊗ (I ⊕ var 0 ⊗ O)) (var 2 ⊕ (var 0 ⊕ neg (var 1)) ⊗ (I ⊕ var 0 ⊗ O)) refl
  stepped_value y a b (c ∷ cs) =
      ap (λ (t : F). o.plus (minus o b (o.times a c)) (o.times y t)) (stepped_value y a c cs)
      ∙ ring laws (y ∷ a ∷ b ∷ c ∷ at cs y ∷ [])
      ((var 2 ⊕ neg (var 1 ⊗ var 3)) ⊕ var 0 ⊗ (var 3 ⊕ (var 0 ⊕ neg (var 1)) ⊗ var 4))
      (var 2 ⊕ (var 0 ⊕ neg (var 1)) ⊗ (var 3 ⊕ var 0 ⊗ var 4)) refl

  times_root_value : (y a : F) (cs : List F) → at (times_root o a cs) y ≡ o.times (minus o y a) (at cs y)
  times_root_value y a cs = stepped_value y a o.zero cs ∙ zero-plus laws (o.times (minus o y a) (at cs y))

  -- a root stays one
  root_at_stays : (y a : F) (cs : List F) (b : Bool) → at cs y ≡ o.zero → at (cond b (times_root o a cs) cs) y ≡ o.zero
  root_at_stays y a cs true e = times_root_value y a cs ∙ ap (o.times (minus o y a)) e ∙ times_zero laws (minus o y a)
  root_at_stays y a cs false e = e

  root_stays : (y : F) (cs : List F) (i : ℕ) (xs : List F) → at cs y ≡ o.zero → at (accumulated (rooted_at o) cs i xs) y ≡ o.zero
  root_stays y cs i [] e = e
  root_stays y cs i (x ∷ xs) e = root_stays y (rooted_at o cs i x) (suc i) xs (root_at_stays y (o.element i) cs (nonzero o x) e)

  root_at-made : (a : F) (cs : List F) (b : Bool) → b ≡ true → at (cond b (times_root o a cs) cs) a ≡ o.zero
  root_at-made a cs b e =
      ap (λ (t : Bool). at (cond t (times_root o a cs) cs) a) e ∙ times_root_value a a cs
      ∙ ap (λ (t : F). o.times t (at cs a)) (laws.plus-negate a) ∙ zero-times laws (at cs a)

  root-made : (cs : List F) (i : ℕ) (xs : List F) (t : ℕ) → t < length xs → nonzero o (slice_index_or xs t o.zero) ≡ true
      → at (accumulated (rooted_at o) cs i xs) (o.element (i + t)) ≡ o.zero
  root-made cs i [] t h n = absurd (omega arith)
  root-made cs i (x ∷ xs) zero h n =
      ap (λ (j : ℕ). at (accumulated (rooted_at o) (rooted_at o cs i x) (suc i) xs) (o.element j)) (omega arith)
      ∙ root_stays (o.element i) (rooted_at o cs i x) (suc i) xs (root_at-made (o.element i) cs (nonzero o x) n)
  root-made cs i (x ∷ xs) (suc t) h n =
      ap (λ (j : ℕ). at (accumulated (rooted_at o) (rooted_at o cs i x) (suc i) xs) (o.element j)) (omega arith)
      ∙ root-made (rooted_at o cs i x) (suc i) xs t (omega arith) n

  -- each place of an element that is not zero is a root
  pub rooted_at_lem : (xs : List F) (t : ℕ) → t < length xs → nonzero o (slice_index_or xs t o.zero) ≡ true → at (rooted o xs) (o.element t) ≡ o.zero
  rooted_at_lem xs t h n = let z : t ≡ 0 + t = omega arith in ap (λ (j : ℕ). at (rooted o xs) (o.element j)) z ∙ root-made [] 0 xs t h n
