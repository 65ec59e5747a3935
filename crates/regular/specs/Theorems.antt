-- What holds of the regular lock. Assumes nothing.
use Rattle.std.specs.Prelude.{◌≡◌, ℕ, ◌+◌, ◌-◌, ◌*◌, ◌/◌, ◌<◌, true, false, List, [], ◌∷◌, length}
use Rattle.algebra.specs.Fields.{Ops}
use Rattle.algebra.specs.Prime.{prime, at}
use Rattle.algebra.specs.Sums.{total}
use Rattle.lock.specs.Instances.{Problem, item, word, Satisfies}
use Rattle.lock.specs.Locks.{sound}
use Rattle.regular.specs.Regular.{pairs, blocks, side, OneHot, hot, regular}

module _ {F : Type 0} (o : Ops F) where
  -- H x = y, and each block of x has exactly one [1] and otherwise [0], by places and by counts
  pub record Regularly (p : Problem F) (x : List F) : Type 0 where
    pub satisfies : Satisfies o p x
    pub hot : (b : ℕ) → b < p.shape.w → OneHot o (item o x) (b * side p.shape) (side p.shape)
    pub wanted : (regular o).wanted p.shape x ≡ true

  -- the word of unknowns that solve the lock is such
  abbrev pub RegularWord : Type 0
  RegularWord = (p : Problem F) (u : List F) → sound (regular o) p.shape ≡ true → (regular o).Solves p u → Regularly p (word o p o.one u)

-- a block of n places has n (n - 1) / 2 pairs, and each of count blocks has these and its sum as equations
pub record PairsCounted : Type 0 where
  pub each : (i n : ℕ) → length (pairs i n) ≡ n * (n - 1) / 2
  pub all : (i n count : ℕ) → length (blocks n i count) ≡ count * (1 + n * (n - 1) / 2)

-- modulo 251 the block (2, 250) has the sum 1, and yet more than one place that is not zero: the product of its pair is 249
pub record RegularExample : Type 0 where
  pub sum : total prime (at 2 ∷ at 250 ∷ []) ≡ at 1
  pub product : prime.times (at 2) (at 250) ≡ at 249
  pub cold : hot prime (at 2 ∷ at 250 ∷ []) ≡ false
