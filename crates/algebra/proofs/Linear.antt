-- Sums and sums of products: what is linear, and what a fold computes. Assumes nothing.
use Rattle.std.proofs.Common.{◌≡◌, ℕ, zero, suc, ◌+◌, ◌≤◌, List, [], ◌∷◌, ◌++◌, length, take, min, reverse, fold, sym, refl, ap, ◌∙◌, ap₂, add-zero, suc-add, zero-add, arith}
use Rattle.std.specs.List.{zip}
use Rattle.std.proofs.lemmas.List.{reverse-append}
use Rattle.std.proofs.lemmas.List.Sums.{fold-append}
use Rattle.algebra.specs.Fields.{Ops, Ring}
use Rattle.algebra.specs.Rings.{var, O, ◌⊕◌, ◌⊗◌}
use Rattle.algebra.specs.Sums.{total, sum_from, dot_of, eval_of, combined}
use Rattle.algebra.specs.Theorems.{SumsLinear}
use Rattle.algebra.proofs.Equations.{ring, zero-plus}

module _ {F : Type 0} {o : Ops F} (laws : Ring o) where
  total-append : (xs ys : List F) → total o (xs ++ ys) ≡ o.plus (total o xs) (total o ys)
  total-append [] ys = sym (zero-plus laws (total o ys))
  total-append (x ∷ xs) ys = ap (o.plus x) (total-append xs ys) ∙ sym (laws.plus_assoc x (total o xs) (total o ys))

  sum_split : (f : ℕ → F) (i a b : ℕ) → sum_from o f i (a + b) ≡ o.plus (sum_from o f i a) (sum_from o f (i + a) b)
  sum_split f i zero b =
      ap (sum_from o f i) (zero-add b) ∙ sym (zero-plus laws (sum_from o f i b)) ∙ ap (λ (j : ℕ). o.plus o.zero (sum_from o f j b)) (sym (add-zero i))
  sum_split f i (suc a) b =
      ap (sum_from o f i) (suc-add a b) ∙ ap (o.plus (f i)) (sum_split f (suc i) a b)
      ∙ sym (laws.plus_assoc (f i) (sum_from o f (suc i) a) (sum_from o f (suc i + a) b))
      ∙ ap (λ (j : ℕ). o.plus (o.plus (f i) (sum_from o f (suc i) a)) (sum_from o f j b)) (omega arith)

  dot_comm : (xs ys : List F) → dot_of o xs ys ≡ dot_of o ys xs
  dot_comm [] [] = refl
  dot_comm [] (y ∷ ys) = refl
  dot_comm (x ∷ xs) [] = refl
  dot_comm (x ∷ xs) (y ∷ ys) = ap₂ o.plus (laws.times_comm x y) (dot_comm xs ys)

  dot_linear : (a : F) (us vs ws : List F) → length us ≡ length vs → dot_of o (combined o a us vs) ws ≡ o.plus (o.times a (dot_of o us ws)) (dot_of o vs ws)
  dot_linear a [] [] ws l = ring laws (a ∷ []) O (var 0 ⊗ O ⊕ O) refl
  dot_linear a [] (v ∷ vs) ws l = absurd (omega arith)
  dot_linear a (u ∷ us) [] ws l = absurd (omega arith)
  dot_linear a (u ∷ us) (v ∷ vs) [] l = ring laws (a ∷ []) O (var 0 ⊗ O ⊕ O) refl
  dot_linear a (u ∷ us) (v ∷ vs) (w ∷ ws) l =
      ap (o.plus (o.times (o.plus (o.times a u) v) w)) (dot_linear a us vs ws (omega arith))
      ∙ ring laws (a ∷ u ∷ v ∷ w ∷ dot_of o us ws ∷ dot_of o vs ws ∷ [])
      ((var 0 ⊗ var 1 ⊕ var 2) ⊗ var 3 ⊕ (var 0 ⊗ var 4 ⊕ var 5))
      (var 0 ⊗ (var 1 ⊗ var 3 ⊕ var 4) ⊕ (var 2 ⊗ var 3 ⊕ var 5)) refl

  eval_linear : (a x : F) (us vs : List F) → length us ≡ length vs → eval_of o (combined o a us vs) x ≡ o.plus (o.times a (eval_of o us x)) (eval_of o vs x)
  eval_linear a x [] [] l = ring laws (a ∷ []) O (var 0 ⊗ O ⊕ O) refl
  eval_linear a x [] (v ∷ vs) l = absurd (omega arith)
  eval_linear a x (u ∷ us) [] l = absurd (omega arith)
  eval_linear a x (u ∷ us) (v ∷ vs) l =
      ap (λ (t : F). o.plus (o.plus (o.times a u) v) (o.times x t)) (eval_linear a x us vs (omega arith))
      ∙ ring laws (a ∷ x ∷ u ∷ v ∷ eval_of o us x ∷ eval_of o vs x ∷ [])
      ((var 0 ⊗ var 2 ⊕ var 3) ⊕ var 1 ⊗ (var 0 ⊗ var 4 ⊕ var 5))
      (var 0 ⊗ (var 2 ⊕ var 1 ⊗ var 4) ⊕ (var 3 ⊕ var 1 ⊗ var 5)) refl

  pub sums_linear : SumsLinear o
  sums_linear = record {
    total-append = total-append;
    sum_split = sum_split;
    dot_comm = dot_comm;
    dot_linear = dot_linear;
    eval_linear = eval_linear;
  }

  -- sums as they are computed, from the left
  fold_total : (s : F) (xs : List F) → fold o.plus s xs ≡ o.plus s (total o xs)
  fold_total s [] = sym (laws.plus-zero s)
  fold_total s (x ∷ xs) = fold_total (o.plus s x) xs ∙ laws.plus_assoc s x (total o xs)

  pub total_by_fold : (z : F) (xs : List F) → z ≡ o.zero → fold o.plus z xs ≡ total o xs
  total_by_fold z xs e = fold_total z xs ∙ ap (λ (s : F). o.plus s (total o xs)) e ∙ zero-plus laws (total o xs)

  abbrev add_product : F → F × F → F
  add_product s p = o.plus s (o.times p.0 p.1)

  fold_dot : (s : F) (xs ys : List F) → fold add_product s (zip xs ys) ≡ o.plus s (dot_of o xs ys)
  fold_dot s [] ys = sym (laws.plus-zero s)
  fold_dot s (x ∷ xs) [] = sym (laws.plus-zero s)
  fold_dot s (x ∷ xs) (y ∷ ys) = fold_dot (o.plus s (o.times x y)) xs ys ∙ laws.plus_assoc s (o.times x y) (dot_of o xs ys)

  pub dot_by_fold : (z : F) (xs ys : List F) → z ≡ o.zero → fold add_product z (zip xs ys) ≡ dot_of o xs ys
  dot_by_fold z xs ys e = fold_dot z xs ys ∙ ap (λ (s : F). o.plus s (dot_of o xs ys)) e ∙ zero-plus laws (dot_of o xs ys)

  -- what stands beyond the end of the shorter list is in no product
  pub dot_cut : (n : ℕ) (xs ys : List F) → min (length xs) (length ys) ≤ n → dot_of o (take n xs) (take n ys) ≡ dot_of o xs ys
  dot_cut zero [] ys h = refl
  dot_cut zero (x ∷ xs) [] h = refl
  dot_cut zero (x ∷ xs) (y ∷ ys) h = absurd (omega arith)
  dot_cut (suc n) [] ys h = refl
  dot_cut (suc n) (x ∷ xs) [] h = refl
  dot_cut (suc n) (x ∷ xs) (y ∷ ys) h = ap (o.plus (o.times x y)) (dot_cut n xs ys (omega arith))

-- Horner's rule takes the last coefficient first
module _ {F : Type 0} (o : Ops F) where
  pub eval_by_fold : (at z : F) (cs : List F) → z ≡ o.zero → fold (λ v c. o.plus c (o.times at v)) z (reverse cs) ≡ eval_of o cs at
  eval_by_fold at z [] e = e
  eval_by_fold at z (c ∷ cs) e =
      let step = λ (v d : F). o.plus d (o.times at v) in
      ap (fold step z) (reverse-append (c ∷ []) cs) ∙ fold-append step z (reverse cs) (c ∷ []) ∙ ap (λ (v : F). o.plus c (o.times at v)) (eval_by_fold at z cs e)
