-- Polynomials with given roots. X^n + .. is held as its n lower coefficients, the constant one first. Assumes nothing.
use Rattle.std.specs.Prelude.{ℕ, Bool, cond, not, List, [], ◌∷◌, ◌++◌, count_by, ◌==◌}
use Rattle.algebra.specs.Fields.{Ops}
use Rattle.algebra.specs.Sums.{minus}
use Rattle.theory.specs.Loops.{accumulated}

module _ {F : Type 0} (o : Ops F) where
  -- the element is not zero
  abbrev pub nonzero : F → Bool
  nonzero x = not (o.number x == 0)

  -- how many elements are not zero
  abbrev pub weight_of : List F → ℕ
  weight_of xs = count_by nonzero xs

  -- each element becomes the one before it minus a times itself; b stands before the first
  abbrev pub stepped : F → F → List F → List F
  stepped a b [] = []
  stepped a b (c ∷ cs) = minus o b (o.times a c) ∷ stepped a c cs

  -- (X - a) (X^n + ..)
  abbrev pub times_root : F → List F → List F
  times_root a cs = stepped a o.zero (cs ++ (o.one ∷ []))

  -- a polynomial times X - [i], where the element at place i is not zero
  abbrev pub rooted_at : List F → ℕ → F → List F
  rooted_at cs i x = cond (nonzero x) (times_root (o.element i) cs) cs

  -- the product of X - [i] over the places i at which the element is not zero
  abbrev pub rooted : List F → List F
  rooted xs = accumulated rooted_at [] 0 xs
