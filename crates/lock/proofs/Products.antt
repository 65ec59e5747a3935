-- The turns of the loops that multiply by the matrix. Assumes nothing.
use Rattle.std.proofs.Common.{◌≡◌, ℕ, suc, ◌+◌, ◌-◌, ◌*◌, ◌<◌, ◌≤◌, List, [], ◌∷◌, ◌++◌, length, get_or, take, drop, sym, refl, ap, ◌∙◌, ap₂, inl, inr, mul-le-mul_right, suc-mul, add-one, arith}
use Rattle.std.proofs.lemmas.List.{get_or-take, get_or-drop, get_or_read, get_or_append_left, get_or-append_right, drop-drop, length-append, length-drop, length-take-le}
use Rattle.std.proofs.lemmas.Bool.{cases_lt}
use Rattle.algebra.specs.Fields.{Ops, Ring}
use Rattle.algebra.specs.Rings.{var, ◌⊕◌, ◌⊗◌}
use Rattle.algebra.specs.Sums.{combined, minus}
use Rattle.algebra.proofs.Equations.{ring}
use Rattle.algebra.proofs.Scaled.{get_or-combined}
use Rattle.lock.specs.Instances.{Problem, item, entry, word}
use Rattle.lock.specs.Products.{row_times, BoundPart}
use Rattle.lock.proofs.Places.{sum_more}
use Rattle.lock.proofs.Words.{word_from, entry_free, entry_bound, row_same}

module _ {F : Type 0} (o : Ops F) where
  -- c columns were added, and the others are left
  pub record Adding (matrix factors was : List F) (rows c : ℕ) (rest sums : List F) : Type 0 where
    pub left : rest ≡ drop (c * rows) matrix
    pub done : (r : ℕ) → r < rows → item o sums r ≡ o.plus (item o was r) (row_times o matrix rows factors r c)

  -- the first i rows were subtracted from y s
  pub record Binding (p : Problem F) (s : F) (rows : List F) (i : ℕ) (out : List F) : Type 0 where
    pub before : (r : ℕ) → r < i → item o out r ≡ minus o (o.times (item o p.target r) s) (item o rows r)
    pub after : (r : ℕ) → i ≤ r → item o out r ≡ item o rows r

-- there is a column more
pub column_left : {X : Type 0} (n rows c : ℕ) (matrix rest : List X) → length matrix ≡ n * rows → c < n → rest ≡ drop (c * rows) matrix → rows ≤ length rest
column_left n rows c matrix rest l h e =
    let a : suc c * rows ≤ n * rows = mul-le-mul_right rows h in
    omega (arith, suc-mul c rows, ap length e, length-drop (c * rows) matrix)

module _ {F : Type 0} {o : Ops F} (laws : Ring o) where
  pub adding_more : (matrix factors was : List F) (rows c : ℕ) (rest sums column more after : List F) (a : F)
      → length matrix ≡ length factors * rows → length sums ≡ rows → c < length factors
      → column ≡ take rows rest → more ≡ drop rows rest → a ≡ get_or factors c a → after ≡ combined o a column sums
      → Adding o matrix factors was rows c rest sums → Adding o matrix factors was rows (c + 1) more after
  adding_more matrix factors was rows c rest sums column more after a lm ls h ec em ea ef inv =
      let long : rows ≤ length rest = column_left (length factors) rows c matrix rest lm h inv.left in
      let width : length column ≡ length sums = ap length ec ∙ length-take-le rows rest long ∙ sym ls in
      let start : c * rows + rows ≡ (c + 1) * rows = sym (ap (λ (n : ℕ). n * rows) (add-one c) ∙ suc-mul c rows) in
      record {
        left = em ∙ ap (drop rows) inv.left ∙ drop-drop rows (c * rows) matrix ∙ ap (λ (n : ℕ). drop n matrix) start;
        done = λ r hr.
            let f : ℕ → F = λ t. o.times (item o matrix (t * rows + r)) (item o factors t) in
            let S = row_times o matrix rows factors r c in
            let w = item o was r in
            let cell : item o column r ≡ item o matrix (c * rows + r) =
            ap (λ (l : List F). item o l r) ec ∙ get_or-take rows rest r o.zero hr ∙ ap (λ (l : List F). item o l r) inv.left
            ∙ get_or-drop (c * rows) matrix r o.zero in
            let z : c ≡ 0 + c = omega arith in
            ap (λ (l : List F). item o l r) ef
            ∙ get_or-combined o a column sums r o.zero (omega arith) width
            ∙ ap₂ o.plus (ap₂ o.times (get_or_read factors c a h ea o.zero) cell) (inv.done r hr)
            ∙ ring laws (item o factors c ∷ item o matrix (c * rows + r) ∷ w ∷ S ∷ []) (var 0 ⊗ var 1 ⊕ (var 2 ⊕ var 3)) (var 2 ⊕ (var 3 ⊕ var 1 ⊗ var 0)) refl
            ∙ ap (λ (t : F). o.plus w (o.plus S t)) (ap f z)
            ∙ ap (o.plus w) (sym (sum_more laws f 0 c));
      }

module _ {F : Type 0} (o : Ops F) where
  -- the free elements, and then the others, are the word
  pub word-parts : Ring o → (p : Problem F) (s : F) (u front out : List F) → front ≡ take p.shape.k u → p.shape.k ≤ length u → p.shape.k ≤ p.shape.m
      → length out ≡ p.shape.m - p.shape.k → BoundPart o p s (take p.shape.k u) out → front ++ out ≡ word o p s u
  word-parts laws p s u front out ef hu km lo bound =
      let k = p.shape.k in
      let free = take k u in
      let lf : length front ≡ k = ap length ef ∙ length-take-le k u hu in
      word_from o p s u (front ++ out) (length-append front out ∙ omega arith) (λ i h.
      elim (cases_lt i k) [
        | inl lt ↦
            get_or_append_left front out o.zero i (omega arith) ∙ ap (λ (l : List F). item o l i) ef ∙ get_or-take k u i o.zero lt
            ∙ sym (entry_free o p i s u lt)
        | inr ge ↦
            let e : k + (i - k) ≡ i = omega arith in
            get_or-append_right front out k i o.zero lf ge ∙ bound (i - k) (omega arith)
            ∙ ap (minus o (o.times (item o p.target (i - k)) s)) (row_same laws p free u (i - k) (λ j hj. get_or-take k u j o.zero hj))
            ∙ sym (entry_bound o p (i - k) s u) ∙ ap (λ (j : ℕ). entry o p j s u) e
      ])
