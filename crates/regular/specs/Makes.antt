-- A wanted word gives a solving secret, and the word of a solving secret is wanted. Assumes nothing.
use Rattle.std.specs.Prelude.{◌≡◌, ℕ, ◌+◌, ◌*◌, true, List, length, take}
use Rattle.std.proofs.Common.{sym, ap, subst, arith}
use Rattle.std.proofs.lemmas.List.{length-take-le, get_or-take}
use Rattle.algebra.specs.Fields.{Ops, Ring, Numbered}
use Rattle.lock.specs.declared.profile.Shape.{Shape}
use Rattle.lock.specs.Instances.{Problem, item, word, Satisfies}
use Rattle.lock.specs.Locks.{Makes, sound}
use Rattle.lock.proofs.Words.{word_back, length_word, words_satisfy}
use Rattle.regular.specs.Regular.{side, OneHot, Blocked, regular}
use Rattle.regular.specs.Theorems.{RegularWord}
use Rattle.regular.specs.Hots.{all_placed, placed_all}
use Rattle.regular.specs.Sizes.{sizes}

module _ {F : Type 0} {o : Ops F} (laws : Ring o) (numbered : Numbered o) where
  long : (s : Shape) (x : List F) → sound (regular o) s ≡ true → length x ≡ s.m → length (take s.k x) ≡ s.k
  long s x h l = let free = (sizes o s h).range.k_high in length-take-le s.k x (omega arith)

  worded : (p : Problem F) (x : List F) → sound (regular o) p.shape ≡ true → length x ≡ p.shape.m → Satisfies o p x
      → word o p o.one (take p.shape.k x) ≡ x
  worded p x h l sat =
      let free = (sizes o p.shape h).range.k_high in
      word_back laws p (take p.shape.k x) x (omega arith) l (λ i lt. get_or-take p.shape.k x i o.zero lt) sat

  solves : (p : Problem F) (x : List F) → sound (regular o) p.shape ≡ true → length x ≡ p.shape.m → (regular o).wanted p.shape x ≡ true
      → Satisfies o p x → Blocked o p (take p.shape.k x)
  solves p x h l wanted sat b lt =
      let n = side p.shape in
      let even = (sizes o p.shape h).even in
      let z : 0 + b * n ≡ b * n = omega arith in
      subst (λ (xs : List F). OneHot o (item o xs) (b * n) n) (sym (worded p x h l sat))
      (subst (λ (j : ℕ). OneHot o (item o x) j n) z
      (all_placed numbered (item o x) 0 n p.shape.w x (omega arith) (λ t ht. let q : 0 + t ≡ t = omega arith in ap (item o x) q) wanted b lt))

  pub regular_makes : Makes o (regular o)
  regular_makes = record {
    long = λ s x h l w. long s x h l;
    worded = λ p x h f l w sat. worded p x h l sat;
    solves = λ p x h f l w sat. solves p x h l w sat;
  }

  pub regular_word : RegularWord o
  regular_word p u h solved =
      let range = (sizes o p.shape h).range in
      let free = range.k_high in
      let even = (sizes o p.shape h).even in
      let x = word o p o.one u in
      let l = length_word o p o.one u in
      let n = side p.shape in
      record {
        satisfies = words_satisfy laws p u (omega arith);
        hot = solved;
        wanted = placed_all numbered (item o x) 0 n p.shape.w x (omega arith) (λ t ht. let q : 0 + t ≡ t = omega arith in ap (item o x) q)
            (λ b lt. let z : b * n ≡ 0 + b * n = omega arith in subst (λ (j : ℕ). OneHot o (item o x) j n) z (solved b lt));
      }
