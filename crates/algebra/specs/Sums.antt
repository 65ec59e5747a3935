-- Sums, sums of products, and the value of a polynomial, over any field. Assumes nothing.
use Rattle.std.specs.Prelude.{ℕ, zero, suc, List, [], ◌∷◌}
use Rattle.algebra.specs.Fields.{Ops}

module _ {F : Type 0} (o : Ops F) where
  -- x - y
  abbrev pub minus : F → F → F
  minus x y = o.plus x (o.negate y)

  -- x_0 + x_1 + ..
  abbrev pub total : List F → F
  total [] = o.zero
  total (x ∷ xs) = o.plus x (total xs)

  -- f i + f (i + 1) + .., n of them
  abbrev pub sum_from : (ℕ → F) → ℕ → ℕ → F
  sum_from f i zero = o.zero
  sum_from f i (suc n) = o.plus (f i) (sum_from f (suc i) n)

  -- x_0 y_0 + x_1 y_1 + .., up to the end of the shorter list
  abbrev pub dot_of : List F → List F → F
  dot_of [] ys = o.zero
  dot_of (x ∷ xs) [] = o.zero
  dot_of (x ∷ xs) (y ∷ ys) = o.plus (o.times x y) (dot_of xs ys)

  -- c_0 + c_1 x + c_2 x^2 + ..
  abbrev pub eval_of : List F → F → F
  eval_of [] x = o.zero
  eval_of (c ∷ cs) x = o.plus c (o.times x (eval_of cs x))

  -- a u + v, element by element
  abbrev pub combined : F → List F → List F → List F
  combined a [] vs = []
  combined a (u ∷ us) [] = []
  combined a (u ∷ us) (v ∷ vs) = o.plus (o.times a u) v ∷ combined a us vs
