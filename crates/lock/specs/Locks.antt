-- What a lock is. Assumes nothing.
use Rattle.std.specs.Prelude.{◌≡◌, ℕ, ◌<◌, ◌≤◌, Bool, true, ◌&&◌, List, length, nat_le}
use Rattle.algebra.specs.Fields.{Ops}
use Rattle.algebra.specs.Sums.{combined}
use Rattle.lock.specs.declared.profile.Shape.{Shape}
use Rattle.lock.specs.declared.profile.Profile.{Profile}
use Rattle.lock.specs.Profiles.{ranged, repeated}
use Rattle.lock.specs.Instances.{Problem, Fits, word, Satisfies}

-- A lock has so many unknowns and equations; `form p j s u` is E_j(s, u), `cross p j u v` is C_j(u, v). It may have limits of its own.
-- A word x of the kind that is `wanted` has the unknowns `secret`.
pub record Forms (F : Type 0) : Type 1 where
  pub admits : Shape → Bool
  pub unknowns : Shape → ℕ
  pub equations : Shape → ℕ
  pub form : Problem F → ℕ → F → List F → F
  pub cross : Problem F → ℕ → List F → List F → F
  pub Solves : Problem F → List F → Type 0
  pub wanted : Shape → List F → Bool
  pub secret : Shape → List F → List F

-- what the equations are worked out from at a level and unknowns, so that it is worked out once for all of them
pub record Parts (F : Type 0) : Type 0 where
  pub count : Shape → ℕ
  pub all : Problem F → F → List F → List F

-- the numbers of a lock are in their ranges, it has at most 256 unknowns, and its own limits are kept
abbrev pub sound : {F : Type 0} → Forms F → Shape → Bool
sound l s = ranged s && (nat_le (l.unknowns s) 256 && l.admits s)

-- all numbers of a profile are within their limits
abbrev pub within : {F : Type 0} → Forms F → Profile → Bool
within l p = sound l p.shape && repeated p

module _ {F : Type 0} (o : Ops F) where
  -- a x x + b x + c
  abbrev pub quadratic : F → F → F → F → F
  quadratic a b c x = o.plus (o.plus (o.times a (o.times x x)) (o.times b x)) c

module _ {F : Type 0} (o : Ops F) (l : Forms F) where
  -- along a line each equation is a polynomial of degree two: E_j(X, u X + v) = E_j(1, u) X^2 + C_j(u, v) X + E_j(0, v)
  pub record OnLines : Type 0 where
    pub line : (p : Problem F) (j : ℕ) (x : F) (u v : List F) → j < l.equations p.shape
        → length u ≡ l.unknowns p.shape → length v ≡ l.unknowns p.shape
        → l.form p j x (combined o x u v) ≡ quadratic o (l.form p j o.one u) (l.cross p j u v) (l.form p j o.zero v) x
    pub free : (s : Shape) → s.k ≤ l.unknowns s

  -- all E_j(1, u) are zero exactly when u solves the lock
  pub record Opens : Type 0 where
    pub solved : (p : Problem F) (u : List F) → length u ≡ l.unknowns p.shape
        → ((j : ℕ) → j < l.equations p.shape → l.form p j o.one u ≡ o.zero) → l.Solves p u
    pub zeros : (p : Problem F) (u : List F) → length u ≡ l.unknowns p.shape
        → l.Solves p u → (j : ℕ) → j < l.equations p.shape → l.form p j o.one u ≡ o.zero

  -- the secret of a wanted word has as many unknowns as the lock, and solves it where the target is H x; x is then its word
  pub record Makes : Type 0 where
    pub long : (s : Shape) (x : List F) → sound l s ≡ true → length x ≡ s.m → l.wanted s x ≡ true
        → length (l.secret s x) ≡ l.unknowns s
    pub worded : (p : Problem F) (x : List F) → sound l p.shape ≡ true → Fits p → length x ≡ p.shape.m → l.wanted p.shape x ≡ true
        → Satisfies o p x → word o p o.one (l.secret p.shape x) ≡ x
    pub solves : (p : Problem F) (x : List F) → sound l p.shape ≡ true → Fits p → length x ≡ p.shape.m → l.wanted p.shape x ≡ true
        → Satisfies o p x → l.Solves p (l.secret p.shape x)
