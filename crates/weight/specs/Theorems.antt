-- What solving the weight lock says of the word x. Assumes nothing.
use Rattle.std.specs.Prelude.{◌≡◌, ℕ, ◌<◌, ◌≤◌, List, length, ◌≢◌}
use Rattle.std.specs.List.{AllByRecursion}
use Rattle.algebra.specs.Fields.{Ops}
use Rattle.theory.specs.Distinct.{Distinct}
use Rattle.lock.specs.Instances.{Problem, item, word, Satisfies}
use Rattle.weight.specs.Roots.{weight_of}
use Rattle.weight.specs.Weight.{weight}

module _ {F : Type 0} (o : Ops F) where
  -- the element of x at a place is not zero
  abbrev pub NotZero : Problem F → List F → ℕ → Type 0
  NotZero p x i = (i < p.shape.m) × (item o x i ≢ o.zero)

  -- H x = y, and x has the weight w at most: of different places at which it is not zero there are no more
  pub record Light (p : Problem F) (x : List F) : Type 0 where
    pub satisfies : Satisfies o p x
    pub few : (places : List ℕ) → Distinct places → AllByRecursion (NotZero p x) places → length places ≤ p.shape.w
    pub weighs : weight_of o x ≤ p.shape.w

  -- the word of unknowns that solve the lock is such an x
  abbrev pub WeightBound : Type 0
  WeightBound = (p : Problem F) (u : List F) → p.shape.k ≤ p.shape.m → p.shape.m ≤ 250 → length u ≡ (weight o).unknowns p.shape
      → (weight o).Solves p u → Light p (word o p o.one u)
