-- One linear condition leaves one list in `size`. Assumes nothing.
use Rattle.std.proofs.Common.{◌≡◌, ℕ, zero, suc, ◌+◌, ◌*◌, ◌/◌, ◌%◌, ◌^◌, ◌<◌, ◌≤◌, Bool, true, false, eqb, List, [], ◌∷◌, length, sym, refl, ap, ◌∙◌, subst, ap₂, not-suc-le-zero, mul-le-mul_right, pow-suc, arith, eqb-true}
use native.Mathlib.Nat.{pow-zero}
use lib.Arith.{digits_lt, digits_div, digits_mod}
use borrow.Author.Tests.{eqb-false}
use Rattle.std.specs.List.{AllByRecursion}
use Rattle.theory.specs.Distinct.{Distinct}
use Rattle.theory.proofs.Pigeons.{counted}
use Rattle.algebra.specs.Fields.{Ops, Ring, Numbered, ZeroProduct}
use Rattle.algebra.specs.Sums.{dot_of}
use Rattle.algebra.specs.Theorems.{Live, FewSolutions}
use Rattle.algebra.proofs.Equations.{plus_cancel}
use Rattle.algebra.proofs.Domains.{number_same, number_is-zero, cancel}

module _ {F : Type 0} (o : Ops F) where
  -- a row as one number
  abbrev num : List F → ℕ
  num [] = 0
  num (g ∷ gs) = num gs * o.size + o.number g

  abbrev pick-key : Bool → ℕ → ℕ → ℕ
  pick-key true a b = a
  pick-key false a b = b

  -- the row as one number, less the place of the first coefficient that is not zero
  abbrev key : List F → List F → ℕ
  key [] gs = 0
  key (c ∷ cs) [] = 0
  key (c ∷ cs) (g ∷ gs) = pick-key (eqb (o.number c) 0) (key cs gs * o.size + o.number g) (num gs)

module _ {F : Type 0} {o : Ops F} (laws : Ring o) (domain : ZeroProduct o) (numbered : Numbered o) where
  digit_eq : (a b : ℕ) (x y : F) → a * o.size + o.number x ≡ b * o.size + o.number y → (a ≡ b) × (x ≡ y)
  digit_eq a b x y e = (
    sym (digits_div a (numbered.number-below x)) ∙ ap (λ (n : ℕ). n / o.size) e ∙ digits_div b (numbered.number-below y),
    number_same numbered x y (sym (digits_mod a (numbered.number-below x)) ∙ ap (λ (n : ℕ). n % o.size) e ∙ digits_mod b (numbered.number-below y)),
  )

  num_lt : (n : ℕ) (gs : List F) → length gs ≡ n → num o gs < o.size ^ n
  num_lt n [] e = subst (λ (k : ℕ). 0 < o.size ^ k) e (subst (λ (k : ℕ). 0 < k) (sym (pow-zero o.size)) (omega arith))
  num_lt zero (g ∷ gs) e = absurd (omega arith)
  num_lt (suc n) (g ∷ gs) e =
      subst (λ (k : ℕ). num o gs * o.size + o.number g < k) (sym (pow-suc o.size n)) (digits_lt (num_lt n gs (omega arith)) (numbered.number-below g))

  num_eq : (gs hs : List F) → length gs ≡ length hs → num o gs ≡ num o hs → gs ≡ hs
  num_eq [] [] l e = refl
  num_eq [] (h ∷ hs) l e = absurd (omega arith)
  num_eq (g ∷ gs) [] l e = absurd (omega arith)
  num_eq (g ∷ gs) (h ∷ hs) l e =
      let d = digit_eq (num o gs) (num o hs) g h e in
      ap₂ (λ (x : F) (xs : List F). x ∷ xs) d.1 (num_eq gs hs (omega arith) d.0)

  pick_lt : (b : Bool) (n k m : ℕ) → (b ≡ true → k < n) → (b ≡ false → m < n) → pick-key o b k m < n
  pick_lt true n k m p q = p refl
  pick_lt false n k m p q = q refl

  -- what is left of a live row of coefficients, when its first is zero
  live_rest : (c : F) (cs : List F) → c ≡ o.zero → Live o (c ∷ cs) → Live o cs
  live_rest c cs z (zero, h, ne) = absurd (ne z)
  live_rest c cs z (suc i, h, ne) = (i, omega arith, ne)

  key_lt : (n : ℕ) (cs gs : List F) → Live o cs → length cs ≡ suc n → length gs ≡ suc n → key o cs gs < o.size ^ n
  key_lt n [] gs l ec eg = absurd (not-suc-le-zero l.1)
  key_lt n (c ∷ cs) [] l ec eg = absurd (omega arith)
  key_lt n (c ∷ cs) (g ∷ gs) l ec eg =
      pick_lt (eqb (o.number c) 0) (o.size ^ n) (key o cs gs * o.size + o.number g) (num o gs)
      (λ t. rest (λ m a b c. key_lt m cs gs a b c) n (live_rest c cs (number_is-zero numbered c (eqb-true (o.number c) 0 t)) l) (omega arith) (omega arith))
      (λ t. num_lt n gs (omega arith))
    where
      rest : ((m : ℕ) → Live o cs → length cs ≡ suc m → length gs ≡ suc m → key o cs gs < o.size ^ m) → (n : ℕ) → Live o cs → length cs ≡ n → length gs ≡ n → key o cs gs * o.size + o.number g < o.size ^ n
      rest ih zero l ec eg = absurd (omega (arith, l.1))
      rest ih (suc n) l ec eg =
          subst (λ (k : ℕ). key o cs gs * o.size + o.number g < k) (sym (pow-suc o.size n)) (digits_lt (ih n l ec eg) (numbered.number-below g))

  plus_cancel_right : (x y z : F) → o.plus x z ≡ o.plus y z → x ≡ y
  plus_cancel_right x y z e = plus_cancel laws z x y (laws.plus_comm z x ∙ e ∙ laws.plus_comm y z)

  -- two solutions with one key are one
  key_eq : (cs gs hs : List F) → Live o cs → length gs ≡ length cs → length hs ≡ length cs → dot_of o gs cs ≡ dot_of o hs cs → key o cs gs ≡ key o cs hs → gs ≡ hs
  key_eq [] gs hs l eg eh d k = absurd (not-suc-le-zero l.1)
  key_eq (c ∷ cs) [] hs l eg eh d k = absurd (omega arith)
  key_eq (c ∷ cs) (g ∷ gs) [] l eg eh d k = absurd (omega arith)
  key_eq (c ∷ cs) (g ∷ gs) (h ∷ hs) l eg eh d k = by (λ a p q r t. key_eq cs gs hs a p q r t) (eqb (o.number c) 0) refl k
    where
      by : (Live o cs → length gs ≡ length cs → length hs ≡ length cs → dot_of o gs cs ≡ dot_of o hs cs → key o cs gs ≡ key o cs hs → gs ≡ hs) → (b : Bool) → eqb (o.number c) 0 ≡ b → pick-key o b (key o cs gs * o.size + o.number g) (num o gs) ≡ pick-key o b (key o cs hs * o.size + o.number h) (num o hs) → g ∷ gs ≡ h ∷ hs
      by ih true t e =
          let q = digit_eq (key o cs gs) (key o cs hs) g h e in
          let live = live_rest c cs (number_is-zero numbered c (eqb-true (o.number c) 0 t)) l in
          let rest : dot_of o gs cs ≡ dot_of o hs cs = plus_cancel laws (o.times g c) (dot_of o gs cs) (dot_of o hs cs) (d ∙ ap (λ (x : F). o.plus (o.times x c) (dot_of o hs cs)) (sym q.1)) in
          ap₂ (λ (x : F) (xs : List F). x ∷ xs) q.1 (ih live (omega arith) (omega arith) rest q.0)
      by ih false t e =
          let same : gs ≡ hs = num_eq gs hs (omega arith) e in
          let ne : c ≡ o.zero → ⊥ = λ z. eqb-false (o.number c) 0 t (ap o.number z ∙ numbered.number-zero) in
          let front : o.times g c ≡ o.times h c = plus_cancel_right (o.times g c) (o.times h c) (dot_of o hs cs) (ap (λ (xs : List F). o.plus (o.times g c) (dot_of o xs cs)) (sym same) ∙ d) in
          ap₂ (λ (x : F) (xs : List F). x ∷ xs) (cancel laws domain c g h ne front) same

  few : (n : ℕ) (c : List F) (rows : List (List F)) → Live o c → length c ≡ n → Distinct rows → AllByRecursion (λ g. (length g ≡ length c) × (dot_of o g c ≡ o.zero)) rows
      → length rows * o.size ≤ o.size ^ n
  few zero c rows l e d a = absurd (omega (arith, l.1))
  few (suc n) c rows l e d a =
      subst (λ (k : ℕ). length rows * o.size ≤ k) (sym (pow-suc o.size n))
      (mul-le-mul_right o.size (counted (key o c) (λ g. (length g ≡ length c) × (dot_of o g c ≡ o.zero))
      (λ x y p q k. key_eq c x y l p.0 q.0 (p.1 ∙ sym q.1) k)
      (o.size ^ n) (λ x p. key_lt n c x l e (p.0 ∙ e)) rows a d))

  pub few_solutions : FewSolutions o
  few_solutions c rows l d a = few (length c) c rows l refl d a
