-- The roots of a polynomial. Assumes nothing.
use Rattle.std.proofs.Common.{◌≡◌, ℕ, zero, suc, ◌≤◌, List, [], ◌∷◌, length, sym, refl, ap, ◌∙◌, ap₂, arith}
use Rattle.std.specs.List.{AllByRecursion}
use Rattle.theory.specs.Distinct.{Distinct}
use Rattle.algebra.specs.Fields.{Ops, Ring, ZeroProduct}
use Rattle.algebra.specs.Rings.{var, O, ◌⊕◌, ◌⊗◌, neg}
use Rattle.algebra.specs.Sums.{eval_of}
use Rattle.algebra.specs.Theorems.{FewRoots}
use Rattle.algebra.proofs.Equations.{ring}
use Rattle.algebra.proofs.Domains.{no_divisors, minus-zero}

module _ {F : Type 0} {o : Ops F} (laws : Ring o) (domain : ZeroProduct o) where
  -- the quotient of a polynomial by X - x
  abbrev quotient : F → List F → List F
  quotient x [] = []
  quotient x (c ∷ []) = []
  quotient x (c ∷ d ∷ cs) = eval_of o (d ∷ cs) x ∷ quotient x (d ∷ cs)

  length-quotient : (x c : F) (cs : List F) → length (quotient x (c ∷ cs)) ≡ length cs
  length-quotient x c [] = refl
  length-quotient x c (d ∷ cs) = ap suc (length-quotient x d cs)

  divided : (x y : F) (cs : List F) → eval_of o cs y ≡ o.plus (eval_of o cs x) (o.times (o.plus y (o.negate x)) (eval_of o (quotient x cs) y))
  divided x y [] = ring laws (x ∷ y ∷ []) O (O ⊕ (var 1 ⊕ neg (var 0)) ⊗ O) refl
  divided x y (c ∷ []) =
      ring laws (x ∷ y ∷ c ∷ []) (var 2 ⊕ var 1 ⊗ O) ((var 2 ⊕ var 0 ⊗ O) ⊕ (var 1 ⊕ neg (var 0)) ⊗ O) refl
  divided x y (c ∷ d ∷ cs) =
      ap (λ (t : F). o.plus c (o.times y t)) (divided x y (d ∷ cs))
      ∙ ring laws (x ∷ y ∷ c ∷ eval_of o (d ∷ cs) x ∷ eval_of o (quotient x (d ∷ cs)) y ∷ [])
      (var 2 ⊕ var 1 ⊗ (var 3 ⊕ (var 1 ⊕ neg (var 0)) ⊗ var 4))
      ((var 2 ⊕ var 0 ⊗ var 3) ⊕ (var 1 ⊕ neg (var 0)) ⊗ (var 3 ⊕ var 1 ⊗ var 4)) refl

  -- where the quotient is zero and x is a root, every coefficient is zero
  all-zero : (x : F) (cs : List F) → eval_of o cs x ≡ o.zero → AllByRecursion (λ q. q ≡ o.zero) (quotient x cs) → AllByRecursion (λ c. c ≡ o.zero) cs
  all-zero x [] e a = tt
  all-zero x (c ∷ []) e a = (ring laws (x ∷ c ∷ []) (var 1) (var 1 ⊕ var 0 ⊗ O) refl ∙ e, tt)
  all-zero x (c ∷ d ∷ cs) e a = (
    ring laws (x ∷ c ∷ eval_of o (d ∷ cs) x ∷ []) (var 1) ((var 1 ⊕ var 0 ⊗ var 2) ⊕ neg (var 0 ⊗ var 2)) refl
        ∙ ap₂ (λ (s t : F). o.plus s (o.negate (o.times x t))) e a.0
        ∙ ring laws (x ∷ []) (O ⊕ neg (var 0 ⊗ O)) O refl,
    all-zero x (d ∷ cs) a.0 a.1,
  )

  rest_roots : (x : F) (cs xs : List F) → eval_of o cs x ≡ o.zero → AllByRecursion (λ y. x ≡ y → ⊥) xs → AllByRecursion (λ y. eval_of o cs y ≡ o.zero) xs → AllByRecursion (λ y. eval_of o (quotient x cs) y ≡ o.zero) xs
  rest_roots x cs [] e d a = tt
  rest_roots x cs (y ∷ ys) e d a = (
    no_divisors laws domain (o.plus y (o.negate x)) (eval_of o (quotient x cs) y) (λ z. d.0 (sym (minus-zero laws y x z)))
        (ring laws (eval_of o cs x ∷ o.times (o.plus y (o.negate x)) (eval_of o (quotient x cs) y) ∷ []) (var 1) ((var 0 ⊕ var 1) ⊕ neg (var 0)) refl
        ∙ ap₂ (λ (s t : F). o.plus s (o.negate t)) (sym (divided x y cs) ∙ a.0) e ∙ laws.plus-negate o.zero),
    rest_roots x cs ys e d.1 a.1,
  )

  roots : (n : ℕ) (cs xs : List F) → length cs ≡ n → Distinct xs → AllByRecursion (λ x. eval_of o cs x ≡ o.zero) xs → n ≤ length xs → AllByRecursion (λ c. c ≡ o.zero) cs
  roots n [] xs l d a h = tt
  roots zero (c ∷ cs) xs l d a h = absurd (omega arith)
  roots (suc n) (c ∷ cs) [] l d a h = absurd (omega arith)
  roots (suc n) (c ∷ cs) (x ∷ xs) l d a h =
      all-zero x (c ∷ cs) a.0
      (roots n (quotient x (c ∷ cs)) xs (length-quotient x c cs ∙ omega arith) d.1 (rest_roots x (c ∷ cs) xs a.0 d.0 a.1) (omega arith))

  pub few_roots : FewRoots o
  few_roots cs xs d a h = roots (length cs) cs xs refl d a h
