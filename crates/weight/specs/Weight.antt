-- The weight lock: x_i Q([i]) = 0 for each place i, so that x is zero but at the roots of Q = X^w + .. . Assumes nothing.
use Rattle.std.specs.Prelude.{◌≡◌, ℕ, ◌+◌, ◌<◌, true, List, [], ◌∷◌, ◌++◌, take, drop, ◌==◌, ◌≢◌}
use Rattle.algebra.specs.Fields.{Ops}
use Rattle.algebra.specs.Sums.{eval_of}
use Rattle.lock.specs.Instances.{Problem, coordinate, listed, word}
use Rattle.lock.specs.Locks.{Forms, Parts}
use Rattle.weight.specs.Roots.{weight_of, rooted}

module _ {F : Type 0} (o : Ops F) where
  -- Q([i]) at the level s, which is its leading coefficient; the others are the unknowns from k on, the constant one first
  abbrev pub locator : Problem F → ℕ → F → List F → F
  locator p i s u = eval_of o (drop p.shape.k u ++ (s ∷ [])) (o.element i)

  -- Q([i]) is zero wherever x_i is not
  abbrev pub Located : Problem F → List F → Type 0
  Located p u = (i : ℕ) → i < p.shape.m → (coordinate o p i o.one u ≢ o.zero) → locator p i o.one u ≡ o.zero

  -- the weight lock; a word of weight w has the secret x_A and the lower coefficients of the Q whose roots are its places
  abbrev pub weight : Forms F
  weight = record {
    admits = λ s. true;
    unknowns = λ s. s.k + s.w;
    equations = λ s. s.m;
    form = λ p j s u. o.times (coordinate o p j s u) (locator p j s u);
    cross = λ p j u v.
        o.plus (o.times (coordinate o p j o.one u) (locator p j o.zero v)) (o.times (coordinate o p j o.zero v) (locator p j o.one u));
    Solves = Located;
    wanted = λ s x. (weight_of o x == s.w);
    secret = λ s x. take s.k x ++ rooted o x;
  }

  -- x_0, x_1, .. and then Q([0]), Q([1]), ..
  abbrev pub parts : Parts F
  parts = record {
    count = λ s. s.m + s.m;
    all = λ p s u. word o p s u ++ listed (λ j. locator p j s u) 0 p.shape.m;
  }
