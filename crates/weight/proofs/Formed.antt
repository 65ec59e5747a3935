-- The equations and their cross terms, from the word and the values of Q. Assumes nothing.
use Rattle.std.proofs.Common.{◌≡◌, ℕ, ◌+◌, ◌<◌, List, take, drop, ap, ◌∙◌, ap₂, arith}
use Rattle.std.proofs.lemmas.List.{take_at, drop_at}
use Rattle.algebra.specs.Fields.{Ops}
use Rattle.lock.specs.declared.profile.Shape.{Shape}
use Rattle.lock.specs.Instances.{Problem, item, listed, word, coordinate}
use Rattle.lock.proofs.Listed.{get_or-listed}
use Rattle.lock.proofs.Words.{length_word}
use Rattle.weight.specs.Places.{products_of, crossings_of}
use Rattle.weight.specs.Weight.{weight, locator, parts}
use Rattle.weight.proofs.Placed.{listed_same}

module _ {F : Type 0} (o : Ops F) where
  -- x and q are the word and the values of Q, at m places
  pub record Halves (p : Problem F) (m : ℕ) (s : F) (u x q : List F) : Type 0 where
    pub in_word : (j : ℕ) → item o x j ≡ coordinate o p j s u
    pub in_locators : (j : ℕ) → j < m → item o q j ≡ locator o p j s u

  -- the halves of the parts
  pub halves : (p : Problem F) (shape : Shape) (s : F) (u all x q : List F) → p.shape ≡ shape → all ≡ (parts o).all p s u
      → x ≡ take shape.m all → q ≡ drop shape.m all → Halves p shape.m s u x q
  halves p shape s u all x q shaped e ex eq =
      let m = shape.m in
      let same : p.shape.m ≡ m = ap (λ (t : Shape). t.m) shaped in
      let long = length_word o p s u ∙ same in
      let f : ℕ → F = λ j. locator o p j s u in
      let is_word : x ≡ word o p s u = ex ∙ ap (take m) e ∙ take_at (word o p s u) (listed f 0 p.shape.m) m long in
      let is_locators : q ≡ listed f 0 p.shape.m = eq ∙ ap (drop m) e ∙ drop_at (word o p s u) (listed f 0 p.shape.m) m long in
      record {
        in_word = λ j. ap (λ (l : List F). item o l j) is_word;
        in_locators = λ j h.
            let z : 0 + j ≡ j = omega arith in
            ap (λ (l : List F). item o l j) is_locators ∙ get_or-listed f 0 p.shape.m j o.zero (omega arith) ∙ ap f z;
      }

  pub products_are : (p : Problem F) (m : ℕ) (s : F) (u x q out : List F) (n : ℕ) → n ≡ m → out ≡ products_of o x q n
      → Halves p m s u x q → out ≡ listed (λ j. (weight o).form p j s u) 0 m
  products_are p m s u x q out n room made h =
      made ∙ ap (products_of o x q) room
      ∙ listed_same (λ j. o.times (item o x j) (item o q j)) (λ j. (weight o).form p j s u) 0 m
      (λ j lo hi. ap₂ o.times (h.in_word j) (h.in_locators j (omega arith)))

  pub crossings_are : (p : Problem F) (m : ℕ) (u v x q y r out : List F) (n : ℕ) → n ≡ m → out ≡ crossings_of o x q y r n
      → Halves p m o.one u x q → Halves p m o.zero v y r → out ≡ listed (λ j. (weight o).cross p j u v) 0 m
  crossings_are p m u v x q y r out n room made h k =
      made ∙ ap (crossings_of o x q y r) room
      ∙ listed_same (λ j. o.plus (o.times (item o x j) (item o r j)) (o.times (item o y j) (item o q j))) (λ j. (weight o).cross p j u v) 0 m
      (λ j lo hi.
      ap₂ o.plus (ap₂ o.times (h.in_word j) (k.in_locators j (omega arith)))
      (ap₂ o.times (k.in_word j) (h.in_locators j (omega arith))))
