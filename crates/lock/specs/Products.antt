-- The matrix times a list, row by row. Assumes nothing.
use Rattle.std.specs.Prelude.{◌≡◌, ℕ, ◌+◌, ◌-◌, ◌*◌, ◌<◌, List, length}
use Rattle.algebra.specs.Fields.{Ops}
use Rattle.algebra.specs.Sums.{sum_from, minus}
use Rattle.lock.specs.Instances.{Problem, item, row_sum}

module _ {F : Type 0} (o : Ops F) where
  -- row r of a matrix of so many rows, column after column, times a list of n elements
  abbrev pub row_times : List F → ℕ → List F → ℕ → ℕ → F
  row_times matrix rows factors r n = sum_from o (λ c. o.times (item o matrix (c * rows + r)) (item o factors c)) 0 n

  -- to each sum its row times the factors was added
  abbrev pub Added : List F → List F → List F → List F → Type 0
  Added matrix factors was sums = (r : ℕ) → r < length was → item o sums r ≡ o.plus (item o was r) (row_times matrix (length was) factors r (length factors))

  -- y s - H' x_A, row by row
  abbrev pub BoundPart : Problem F → F → List F → List F → Type 0
  BoundPart p s free out = (r : ℕ) → r < p.shape.m - p.shape.k → item o out r ≡ minus o (o.times (item o p.target r) s) (row_sum o p free r)
