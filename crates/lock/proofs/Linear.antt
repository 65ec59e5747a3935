-- Linear forms along a line, and the product of two of them. Assumes nothing.
use Rattle.std.proofs.Common.{◌≡◌, ℕ, zero, suc, ◌-◌, Bool, true, false, cond, ltb, List, [], ◌∷◌, length, sym, refl, ap, ◌∙◌, ap₂, arith}
use Rattle.algebra.specs.Fields.{Ops, Ring}
use Rattle.algebra.specs.Rings.{var, O, I, ◌⊕◌, ◌⊗◌, neg}
use Rattle.algebra.specs.Sums.{sum_from, combined, minus}
use Rattle.algebra.proofs.Equations.{ring}
use Rattle.lock.specs.Instances.{Problem, item, cell, row_sum, entry, listed, word, coordinate}
use Rattle.lock.specs.Linear.{product, crossing, Linear}
use Rattle.lock.specs.Locks.{quadratic}

module _ {F : Type 0} {o : Ops F} (laws : Ring o) where
  -- the law of lines for a product of two linear forms
  pub product_line : (n : ℕ) (a b : F → List F → F) → Linear o n a → Linear o n b → (x : F) (u v : List F) → length u ≡ n → length v ≡ n
      → product o a b x (combined o x u v) ≡ quadratic o (product o a b o.one u) (crossing o a b u v) (product o a b o.zero v) x
  product_line n a b la lb x u v lu lv =
      let X = var 0 in
      let A = var 1 in
      let B = var 2 in
      let C = var 3 in
      let D = var 4 in
      ap₂ o.times (la x u v lu lv) (lb x u v lu lv)
      ∙ ring laws (x ∷ a o.one u ∷ a o.zero v ∷ b o.one u ∷ b o.zero v ∷ [])
      ((A ⊗ X ⊕ B) ⊗ (C ⊗ X ⊕ D)) ((A ⊗ C) ⊗ (X ⊗ X) ⊕ (A ⊗ D ⊕ B ⊗ C) ⊗ X ⊕ B ⊗ D) refl

  item-combined : (i : ℕ) (x : F) (u v : List F) → length u ≡ length v → item o (combined o x u v) i ≡ o.plus (o.times (item o u i) x) (item o v i)
  item-combined i x [] [] l = ring laws (x ∷ []) O (O ⊗ var 0 ⊕ O) refl
  item-combined i x [] (b ∷ v) l = absurd (omega arith)
  item-combined i x (a ∷ u) [] l = absurd (omega arith)
  item-combined zero x (a ∷ u) (b ∷ v) l = ap (λ (t : F). o.plus t b) (laws.times_comm x a)
  item-combined (suc i) x (a ∷ u) (b ∷ v) l = item-combined i x u v (omega arith)

  module _ (n : ℕ) where
    pub item_linear : (i : ℕ) → Linear o n (λ s u. item o u i)
    item_linear i x u v lu lv = item-combined i x u v (lu ∙ sym lv)

    pub level_linear : Linear o n (λ s u. s)
    level_linear x u v lu lv = ring laws (x ∷ []) (var 0) (I ⊗ var 0 ⊕ O) refl

    pub scaled_linear : (c : F) (a : F → List F → F) → Linear o n a → Linear o n (λ s u. o.times c (a s u))
    scaled_linear c a la x u v lu lv =
        ap (o.times c) (la x u v lu lv)
        ∙ ring laws (x ∷ c ∷ a o.one u ∷ a o.zero v ∷ []) (var 1 ⊗ (var 2 ⊗ var 0 ⊕ var 3)) ((var 1 ⊗ var 2) ⊗ var 0 ⊕ var 1 ⊗ var 3) refl

    pub negate_linear : (a : F → List F → F) → Linear o n a → Linear o n (λ s u. o.negate (a s u))
    negate_linear a la x u v lu lv =
        ap o.negate (la x u v lu lv)
        ∙ ring laws (x ∷ a o.one u ∷ a o.zero v ∷ []) (neg (var 1 ⊗ var 0 ⊕ var 2)) (neg (var 1) ⊗ var 0 ⊕ neg (var 2)) refl

    pub plus_linear : (a b : F → List F → F) → Linear o n a → Linear o n b → Linear o n (λ s u. o.plus (a s u) (b s u))
    plus_linear a b la lb x u v lu lv =
        ap₂ o.plus (la x u v lu lv) (lb x u v lu lv)
        ∙ ring laws (x ∷ a o.one u ∷ a o.zero v ∷ b o.one u ∷ b o.zero v ∷ [])
        ((var 1 ⊗ var 0 ⊕ var 2) ⊕ (var 3 ⊗ var 0 ⊕ var 4)) ((var 1 ⊕ var 3) ⊗ var 0 ⊕ (var 2 ⊕ var 4)) refl

    pub sum_linear : (a : ℕ → F → List F → F) → ((t : ℕ) → Linear o n (a t)) → (i c : ℕ) → Linear o n (λ s u. sum_from o (λ t. a t s u) i c)
    sum_linear a la i zero x u v lu lv = ring laws (x ∷ []) O (O ⊗ var 0 ⊕ O) refl
    sum_linear a la i (suc c) x u v lu lv =
        plus_linear (a i) (λ s u. sum_from o (λ t. a t s u) (suc i) c) (la i) (sum_linear a la (suc i) c) x u v lu lv

    pub cond_linear : (t : Bool) (a b : F → List F → F) → Linear o n a → Linear o n b → Linear o n (λ s u. cond t (a s u) (b s u))
    cond_linear true a b la lb = la
    cond_linear false a b la lb = lb

    entry_linear : (p : Problem F) (i : ℕ) → Linear o n (entry o p i)
    entry_linear p i =
        let r = i - p.shape.k in
        let y = item o p.target r in
        let row : F → List F → F = λ s u. row_sum o p u r in
        cond_linear (ltb i p.shape.k) (λ s u. item o u i) (λ s u. minus o (o.times y s) (row s u)) (item_linear i)
        (plus_linear (λ s u. o.times y s) (λ s u. o.negate (row s u)) (scaled_linear y (λ s u. s) level_linear)
        (negate_linear row
        (sum_linear (λ c s u. o.times (cell o p r c) (item o u c)) (λ c. scaled_linear (cell o p r c) (λ s u. item o u c) (item_linear c)) 0 p.shape.k)))

    listed_linear : (a : ℕ → F → List F → F) → ((t : ℕ) → Linear o n (a t)) → (i c t : ℕ) → Linear o n (λ s u. item o (listed (λ r. a r s u) i c) t)
    listed_linear a la i zero t x u v lu lv = ring laws (x ∷ []) O (O ⊗ var 0 ⊕ O) refl
    listed_linear a la i (suc c) zero x u v lu lv = la i x u v lu lv
    listed_linear a la i (suc c) (suc t) x u v lu lv = listed_linear a la (suc i) c t x u v lu lv

    -- each element of the word is a linear form
    pub coordinate_linear : (p : Problem F) (i : ℕ) → Linear o n (coordinate o p i)
    unfolding word
    coordinate_linear p i = listed_linear (entry o p) (entry_linear p) 0 p.shape.m i
