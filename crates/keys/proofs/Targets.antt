-- The target y = H x. Assumes nothing.
use Rattle.std.proofs.Common.{◌≡◌, ℕ, ◌+◌, ◌-◌, true, List, [], length, take, drop, sym, ap, ◌∙◌, ap₂, arith}
use Rattle.std.proofs.lemmas.List.{get_or-take, get_or-drop, length-take-le, length-drop}
use Rattle.algebra.specs.Fields.{Ops, Ring}
use Rattle.lock.specs.declared.profile.Shape.{Shape}
use Rattle.lock.specs.Instances.{Problem, item, row_sum, listed, product}
use Rattle.lock.specs.Products.{row_times, Added}
use Rattle.lock.specs.Profiles.{ranged}
use Rattle.lock.proofs.Listed.{is-listed_all}
use Rattle.lock.proofs.Ranges.{ranges}
use Rattle.lock.proofs.Words.{product_row, row_same}

module _ {F : Type 0} {o : Ops F} (laws : Ring o) where
  pub target_is : (s : Shape) (matrix x free bound out : List F) → ranged s ≡ true → length x ≡ s.m → free ≡ take s.k x → bound ≡ drop s.k x
      → length out ≡ s.m - s.k → Added o matrix free bound out
      → out ≡ listed (product o (record { shape = s; matrix = matrix; target = [] }) x) 0 (s.m - s.k)
  target_is s matrix x free bound out h lx ef eb lo added =
      let p : Problem F = record { shape = s; matrix = matrix; target = [] } in
      let range = ranges s h in
      let lb : length bound ≡ s.m - s.k = ap length eb ∙ length-drop s.k x ∙ omega arith in
      let lf : length free ≡ s.k = ap length ef ∙ length-take-le s.k x (omega (arith, range.k_high)) in
      is-listed_all (product o p x) (s.m - s.k) out o.zero lo (λ r hr.
      added r (omega arith)
      ∙ ap₂ (λ (a : F) (n : ℕ). o.plus a (row_times o matrix n free r (length free)))
      (ap (λ (l : List F). item o l r) eb ∙ get_or-drop s.k x r o.zero) lb
      ∙ ap (λ (n : ℕ). o.plus (item o x (s.k + r)) (row_times o matrix (s.m - s.k) free r n)) lf
      ∙ ap (o.plus (item o x (s.k + r))) (row_same laws p free x r (λ i hi. ap (λ (l : List F). item o l i) ef ∙ get_or-take s.k x i o.zero hi))
      ∙ laws.plus_comm (item o x (s.k + r)) (row_sum o p x r)
      ∙ sym (product_row laws p x r (omega (arith, range.k_high)) hr))
