-- The word of unknowns: its places, and that it satisfies H x = y. Assumes nothing.
use Rattle.std.proofs.Common.{◌≡◌, ℕ, ◌+◌, ◌-◌, ◌<◌, ◌≤◌, Bool, true, false, cond, eqb, ltb, List, [], ◌∷◌, length, sym, refl, ap, ◌∙◌, ap₂, inl, inr, arith}
use Rattle.std.proofs.lemmas.Bool.{lt-ltb, le-ltb, eq-eqb, ne_eqb, cases_lt}
use Rattle.algebra.specs.Fields.{Ops, Ring}
use Rattle.algebra.specs.Rings.{var, I, ◌⊕◌, ◌⊗◌, neg}
use Rattle.algebra.specs.Sums.{sum_from, minus}
use Rattle.algebra.proofs.Equations.{ring, one-times, zero-times}
use Rattle.lock.specs.Instances.{Problem, item, cell, row_sum, entry, word, coordinate, wide, product, Satisfies}
use Rattle.lock.specs.Theorems.{WordsSatisfy}
use Rattle.lock.proofs.Listed.{length-listed, get_or-listed, is-listed_all}
use Rattle.lock.proofs.Places.{sum_split, sum_same, sum_single}

module _ {F : Type 0} (o : Ops F) where
  pub length_word : (p : Problem F) (s : F) (u : List F) → length (word o p s u) ≡ p.shape.m
  unfolding word
  length_word p s u = length-listed (λ i. entry o p i s u) 0 p.shape.m

  pub word-entry : (p : Problem F) (s : F) (u : List F) (i : ℕ) → i < p.shape.m → coordinate o p i s u ≡ entry o p i s u
  unfolding word
  word-entry p s u i h =
      let f : ℕ → F = λ i. entry o p i s u in
      let z : 0 + i ≡ i = omega arith in
      get_or-listed f 0 p.shape.m i o.zero h ∙ ap f z

  -- a list with the right element at each place is the word
  pub word_from : (p : Problem F) (s : F) (u xs : List F) → length xs ≡ p.shape.m → ((i : ℕ) → i < p.shape.m → item o xs i ≡ entry o p i s u) → xs ≡ word o p s u
  unfolding word
  word_from p s u xs l e = is-listed_all (λ i. entry o p i s u) p.shape.m xs o.zero l e

  -- the free elements, and the others
  pub entry_free : (p : Problem F) (i : ℕ) (s : F) (u : List F) → i < p.shape.k → entry o p i s u ≡ item o u i
  entry_free p i s u h =
      ap (λ (b : Bool). cond b (item o u i) (minus o (o.times (item o p.target (i - p.shape.k)) s) (row_sum o p u (i - p.shape.k))))
      (lt-ltb i p.shape.k h)

  pub entry_bound : (p : Problem F) (r : ℕ) (s : F) (u : List F) → entry o p (p.shape.k + r) s u ≡ minus o (o.times (item o p.target r) s) (row_sum o p u r)
  entry_bound p r s u =
      let k = p.shape.k in
      let i = k + r in
      let d : k + r - k ≡ r = omega arith in
      ap (λ (b : Bool). cond b (item o u i) (minus o (o.times (item o p.target (i - k)) s) (row_sum o p u (i - k)))) (le-ltb i k (omega arith))
      ∙ ap (λ (q : ℕ). minus o (o.times (item o p.target q) s) (row_sum o p u q)) d

module _ {F : Type 0} {o : Ops F} (laws : Ring o) where
  -- a row of H x is that row of H' x_A, and one element of x
  pub product_row : (p : Problem F) (x : List F) (r : ℕ) → p.shape.k ≤ p.shape.m → r < p.shape.m - p.shape.k
      → product o p x r ≡ o.plus (row_sum o p x r) (item o x (p.shape.k + r))
  product_row p x r km h =
      let k = p.shape.k in
      let m = p.shape.m in
      let g : ℕ → F = λ c. o.times (wide o p r c) (item o x c) in
      let whole : m ≡ k + (m - k) = omega arith in
      let start : 0 + k ≡ k = omega arith in
      let front : sum_from o g 0 k ≡ row_sum o p x r =
      sum_same laws g (λ c. o.times (cell o p r c) (item o x c)) 0 k
      (λ c lo hi. let t : ltb c k ≡ true = lt-ltb c k (omega arith) in
      ap (λ (b : Bool). o.times (cond b (cell o p r c) (cond (eqb (c - k) r) o.one o.zero)) (item o x c)) t) in
      let away : (c : ℕ) → k ≤ c → c < k + (m - k) → (c ≡ k + r → ⊥) → g c ≡ o.zero =
      λ c lo hi ne.
      let t : ltb c k ≡ false = le-ltb c k lo in
      let e : eqb (c - k) r ≡ false = ne_eqb (c - k) r (λ q. ne (omega arith)) in
      ap₂ (λ (a b : Bool). o.times (cond a (cell o p r c) (cond b o.one o.zero)) (item o x c)) t e ∙ zero-times laws (item o x c) in
      let last : g (k + r) ≡ item o x (k + r) =
      let t : ltb (k + r) k ≡ false = le-ltb (k + r) k (omega arith) in
      let e : eqb (k + r - k) r ≡ true = eq-eqb (k + r - k) r (omega arith) in
      ap₂ (λ (a b : Bool). o.times (cond a (cell o p r (k + r)) (cond b o.one o.zero)) (item o x (k + r))) t e
      ∙ one-times laws (item o x (k + r)) in
      ap (sum_from o g 0) whole ∙ sum_split laws g 0 k (m - k)
      ∙ ap₂ (λ (a : F) (j : ℕ). o.plus a (sum_from o g j (m - k))) front start
      ∙ ap (o.plus (row_sum o p x r)) (sum_single laws g k (m - k) (k + r) (omega arith) (omega arith) away ∙ last)

  -- rows of H' depend on the free elements alone
  pub row_same : (p : Problem F) (u x : List F) (r : ℕ) → ((i : ℕ) → i < p.shape.k → item o u i ≡ item o x i) → row_sum o p u r ≡ row_sum o p x r
  row_same p u x r e =
      sum_same laws (λ c. o.times (cell o p r c) (item o u c)) (λ c. o.times (cell o p r c) (item o x c)) 0 p.shape.k
      (λ c lo hi. ap (o.times (cell o p r c)) (e c (omega arith)))

  pub words_satisfy : WordsSatisfy o
  words_satisfy p u km r h =
      let x = word o p o.one u in
      let k = p.shape.k in
      let S = row_sum o p u r in
      let y = item o p.target r in
      let same : row_sum o p x r ≡ S =
      row_same p x u r (λ i hi. word-entry o p o.one u i (omega arith) ∙ entry_free o p i o.one u hi) in
      let last : item o x (k + r) ≡ minus o (o.times y o.one) S =
      word-entry o p o.one u (k + r) (omega arith) ∙ entry_bound o p r o.one u in
      product_row p x r km h ∙ ap₂ o.plus same last
      ∙ ring laws (S ∷ y ∷ []) (var 0 ⊕ (var 1 ⊗ I ⊕ neg (var 0))) (var 1) refl

  -- where H x = y, the word of unknowns that begin with x_A is x
  pub word_back : (p : Problem F) (u x : List F) → p.shape.k ≤ p.shape.m → length x ≡ p.shape.m
      → ((i : ℕ) → i < p.shape.k → item o u i ≡ item o x i) → Satisfies o p x → word o p o.one u ≡ x
  word_back p u x km l free sat = sym (word_from o p o.one u x l place)
    where
      bound : (r : ℕ) → r < p.shape.m - p.shape.k → item o x (p.shape.k + r) ≡ entry o p (p.shape.k + r) o.one u
      bound r h =
          let S = row_sum o p x r in
          let z = item o x (p.shape.k + r) in
          sym (entry_bound o p r o.one u
          ∙ ap₂ (λ (a b : F). minus o (o.times a o.one) b) (sym (sat r h) ∙ product_row p x r km h) (row_same p u x r free)
          ∙ ring laws (S ∷ z ∷ []) ((var 0 ⊕ var 1) ⊗ I ⊕ neg (var 0)) (var 1) refl)

      place : (i : ℕ) → i < p.shape.m → item o x i ≡ entry o p i o.one u
      place i h =
          elim (cases_lt i p.shape.k) [
            | inl lt ↦ sym (entry_free o p i o.one u lt ∙ free i lt)
            | inr ge ↦
                let e : p.shape.k + (i - p.shape.k) ≡ i = omega arith in
                ap (item o x) (sym e) ∙ bound (i - p.shape.k) (omega arith) ∙ ap (λ (j : ℕ). entry o p j o.one u) e
          ]
