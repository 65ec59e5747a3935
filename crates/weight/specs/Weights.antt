-- The weight lock keeps the laws of a lock. Assumes nothing.
use Rattle.std.specs.Prelude.{◌≡◌, ℕ, ◌+◌, ◌<◌, ◌≤◌, true, not, List, [], ◌∷◌, ◌++◌, length, take, ◌≢◌}
use Rattle.std.proofs.Common.{ap, ◌∙◌, inl, inr, arith}
use Rattle.std.proofs.lemmas.List.{length-append, length-take-le, drop_at, get_or_append_left, get_or-take}
use Rattle.std.proofs.lemmas.Bool.{eqb-true, ne_eqb}
use Rattle.algebra.specs.Fields.{Ops, Ring, Numbered, ZeroProduct}
use Rattle.algebra.specs.Sums.{eval_of}
use Rattle.algebra.proofs.Equations.{times_zero, zero-times}
use Rattle.algebra.proofs.Domains.{zero_or, no_divisors, number_is-zero}
use Rattle.lock.specs.Instances.{Problem, item, word, coordinate, Satisfies}
use Rattle.lock.specs.Locks.{OnLines, Opens, Makes, sound}
use Rattle.lock.specs.declared.profile.Shape.{Shape}
use Rattle.lock.proofs.Linear.{product_line, coordinate_linear}
use Rattle.lock.proofs.Ranges.{sounds}
use Rattle.lock.proofs.Words.{word_back}
use Rattle.weight.specs.Roots.{nonzero, weight_of, rooted}
use Rattle.weight.specs.Weight.{weight, locator, Located}
use Rattle.weight.specs.Linear.{level_leads}
use Rattle.weight.specs.Rooted.{length-rooted, rooted_at_lem}

module _ {F : Type 0} {o : Ops F} (laws : Ring o) where
  pub weight_lines : OnLines o (weight o)
  weight_lines = record {
    line = λ p j x u v h lu lv.
        let n = p.shape.k + p.shape.w in
        product_line laws n (coordinate o p j) (locator o p j) (coordinate_linear laws n p j) (level_leads laws n p.shape.k (o.element j)) x u v lu lv;
    free = λ s. omega arith;
  }

module _ {F : Type 0} {o : Ops F} (laws : Ring o) (domain : ZeroProduct o) (numbered : Numbered o) where
  located_zeros : (p : Problem F) (u : List F) → Located o p u → (i : ℕ) → i < p.shape.m
      → o.times (coordinate o p i o.one u) (locator o p i o.one u) ≡ o.zero
  located_zeros p u s i h =
      let x = coordinate o p i o.one u in
      let q = locator o p i o.one u in
      elim (zero_or numbered x) [
        | inl e ↦ ap (λ (t : F). o.times t q) e ∙ zero-times laws q
        | inr ne ↦ ap (o.times x) (s i h ne) ∙ times_zero laws x
      ]

  pub weight_opens : Opens o (weight o)
  weight_opens = record {
    solved = λ p u l z i h ne. no_divisors laws domain (coordinate o p i o.one u) (locator o p i o.one u) ne (z i h);
    zeros = λ p u l s j h. located_zeros p u s j h;
  }

pub free_few : {F : Type 0} (o : Ops F) (s : Shape) → sound (weight o) s ≡ true → s.k ≤ s.m
free_few o s e = let range = (sounds (weight o) s e).range in omega (arith, range.k_high)

module _ {F : Type 0} {o : Ops F} (laws : Ring o) (numbered : Numbered o) where
  nonzero_by : (x : F) → (x ≢ o.zero) → nonzero o x ≡ true
  nonzero_by x ne = ap not (ne_eqb (o.number x) 0 (λ e. ne (number_is-zero numbered x e)))

  -- the secret of a word
  abbrev made : Shape → List F → List F
  made s x = take s.k x ++ rooted o x

  made_free : (s : Shape) (x : List F) (i : ℕ) → s.k ≤ length x → i < s.k → item o (made s x) i ≡ item o x i
  made_free s x i h hi =
      get_or_append_left (take s.k x) (rooted o x) o.zero i (omega (arith, length-take-le s.k x h)) ∙ get_or-take s.k x i o.zero hi

  made_word : (p : Problem F) (x : List F) → sound (weight o) p.shape ≡ true → length x ≡ p.shape.m → Satisfies o p x
      → word o p o.one (made p.shape x) ≡ x
  made_word p x e l sat =
      let few = free_few o p.shape e in
      word_back laws p (made p.shape x) x few l (λ i h. made_free p.shape x i (omega arith) h) sat

  made_located : (p : Problem F) (x : List F) → sound (weight o) p.shape ≡ true → length x ≡ p.shape.m → Satisfies o p x
      → Located o p (made p.shape x)
  made_located p x e l sat i h ne =
      let few = free_few o p.shape e in
      let same = made_word p x e l sat in
      let live : item o x i ≡ o.zero → ⊥ = λ z. ne (ap (λ (y : List F). item o y i) same ∙ z) in
      ap (λ (cs : List F). eval_of o (cs ++ (o.one ∷ [])) (o.element i))
      (drop_at (take p.shape.k x) (rooted o x) p.shape.k (length-take-le p.shape.k x (omega arith)))
      ∙ rooted_at_lem laws x i (omega arith) (nonzero_by (item o x i) live)

  pub weight_makes : Makes o (weight o)
  weight_makes = record {
    long = λ s x e l w.
        let few = free_few o s e in
        let front = length-take-le s.k x (omega arith) in
        let weighs = eqb-true (weight_of o x) s.w w in
        let back = length-rooted o x in
        length-append (take s.k x) (rooted o x) ∙ omega arith;
    worded = λ p x e f l w sat. made_word p x e l sat;
    solves = λ p x e f l w sat. made_located p x e l sat;
  }
