-- What holds of every word. Assumes nothing.
use Rattle.std.specs.Prelude.{◌≤◌, List}
use Rattle.algebra.specs.Fields.{Ops}
use Rattle.lock.specs.Instances.{Problem, word, Satisfies}

module _ {F : Type 0} (o : Ops F) where
  -- the word of any unknowns satisfies H x = y
  abbrev pub WordsSatisfy : Type 0
  WordsSatisfy = (p : Problem F) (u : List F) → p.shape.k ≤ p.shape.m → Satisfies o p (word o p o.one u)
