-- The value of a polynomial whose leading coefficient is the level is a linear form. Assumes nothing.
use Rattle.std.specs.Prelude.{◌≡◌, ℕ, zero, suc, ◌-◌, List, [], ◌∷◌, ◌++◌, length, drop, refl}
use Rattle.std.proofs.Common.{sym, ap, ◌∙◌, arith}
use Rattle.std.proofs.lemmas.List.{length-drop}
use Rattle.algebra.specs.Fields.{Ops, Ring}
use Rattle.algebra.specs.Rings.{var, O, I, ◌⊕◌, ◌⊗◌}
use Rattle.algebra.specs.Sums.{eval_of, combined}
use Rattle.algebra.proofs.Equations.{ring}
use Rattle.lock.specs.Linear.{Linear}

module _ {F : Type 0} (o : Ops F) where
  drop-combined : (k : ℕ) (x : F) (u v : List F) → length u ≡ length v → drop k (combined o x u v) ≡ combined o x (drop k u) (drop k v)
  drop-combined zero x u v l = refl
  drop-combined (suc k) x [] v l = refl
  drop-combined (suc k) x (a ∷ u) [] l = absurd (omega arith)
  drop-combined (suc k) x (a ∷ u) (b ∷ v) l = drop-combined k x u v (omega arith)

module _ {F : Type 0} {o : Ops F} (laws : Ring o) where
  eval-combined : (y x : F) (u v : List F) → length u ≡ length v
      → eval_of o (combined o x u v ++ (x ∷ [])) y ≡ o.plus (o.times (eval_of o (u ++ (o.one ∷ [])) y) x) (eval_of o (v ++ (o.zero ∷ [])) y)
  eval-combined y x [] [] l = ring laws (x ∷ y ∷ []) (var 0 ⊕ var 1 ⊗ O) ((I ⊕ var 1 ⊗ O) ⊗ var 0 ⊕ (O ⊕ var 1 ⊗ O)) refl
  eval-combined y x [] (b ∷ v) l = absurd (omega arith)
  eval-combined y x (a ∷ u) [] l = absurd (omega arith)
  eval-combined y x (a ∷ u) (b ∷ v) l =
      ap (λ (t : F). o.plus (o.plus (o.times x a) b) (o.times y t)) (eval-combined y x u v (omega arith))
      ∙ ring laws (x ∷ y ∷ a ∷ b ∷ eval_of o (u ++ (o.one ∷ [])) y ∷ eval_of o (v ++ (o.zero ∷ [])) y ∷ [])
      ((var 0 ⊗ var 2 ⊕ var 3) ⊕ var 1 ⊗ (var 4 ⊗ var 0 ⊕ var 5)) ((var 2 ⊕ var 1 ⊗ var 4) ⊗ var 0 ⊕ (var 3 ⊕ var 1 ⊗ var 5)) refl

  pub level_leads : (n k : ℕ) (y : F) → Linear o n (λ s u. eval_of o (drop k u ++ (s ∷ [])) y)
  level_leads n k y x u v lu lv =
      ap (λ (l : List F). eval_of o (l ++ (x ∷ [])) y) (drop-combined o k x u v (lu ∙ sym lv))
      ∙ eval-combined y x (drop k u) (drop k v) (length-drop k u ∙ ap (λ (l : ℕ). l - k) (lu ∙ sym lv) ∙ sym (length-drop k v))
