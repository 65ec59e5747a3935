-- Linear forms, and equations that are products of two of them. Assumes nothing.
use Rattle.std.specs.Prelude.{◌≡◌, ℕ, List, length}
use Rattle.algebra.specs.Fields.{Ops}
use Rattle.algebra.specs.Sums.{combined}

module _ {F : Type 0} (o : Ops F) where
  -- a form of a level and n unknowns that is linear along every line u x + v
  abbrev pub Linear : ℕ → (F → List F → F) → Type 0
  Linear n a = (x : F) (u v : List F) → length u ≡ n → length v ≡ n → a x (combined o x u v) ≡ o.plus (o.times (a o.one u) x) (a o.zero v)

  -- the product of two forms
  abbrev pub product : (F → List F → F) → (F → List F → F) → F → List F → F
  product a b s u = o.times (a s u) (b s u)

  -- its cross term: what stands at x along the line u x + v
  abbrev pub crossing : (F → List F → F) → (F → List F → F) → List F → List F → F
  crossing a b u v = o.plus (o.times (a o.one u) (b o.zero v)) (o.times (a o.zero v) (b o.one u))
