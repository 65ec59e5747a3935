-- What is worked out at all places at once. Assumes nothing.
use Rattle.std.specs.Prelude.{ℕ, suc, List, [], ◌∷◌}
use Rattle.algebra.specs.Fields.{Ops}
use Rattle.lock.specs.Instances.{item, listed}

module _ {F : Type 0} (o : Ops F) where
  -- c + [i] q for each element q, by its place i; the first place is i
  abbrev pub risen : F → ℕ → List F → List F
  risen c i [] = []
  risen c i (q ∷ qs) = o.plus c (o.times (o.element i) q) ∷ risen c (suc i) qs

  -- x_j q_j at n places
  abbrev pub products_of : List F → List F → ℕ → List F
  products_of x q n = listed (λ j. o.times (item o x j) (item o q j)) 0 n

  -- x_j r_j + y_j q_j at n places
  abbrev pub crossings_of : List F → List F → List F → List F → ℕ → List F
  crossings_of x q y r n = listed (λ j. o.plus (o.times (item o x j) (item o r j)) (o.times (item o y j) (item o q j))) 0 n
