-- The regular lock: in each block of x the sum is one, and the product of each pair is zero. Assumes nothing.
use Rattle.std.specs.Prelude.{◌≡◌, ℕ, zero, suc, ◌+◌, ◌*◌, ◌/◌, ◌%◌, ◌<◌, ◌≤◌, Bool, true, ◌&&◌, List, [], ◌∷◌, ◌++◌, length, take, drop, count_by, ◌==◌, ◌≢◌, nat_eq, nat_le, slice_index_or}
use Rattle.algebra.specs.Fields.{Ops}
use Rattle.algebra.specs.Sums.{sum_from, minus}
use Rattle.lock.specs.declared.profile.Shape.{Shape}
use Rattle.lock.specs.Instances.{Problem, item, word, coordinate}
use Rattle.lock.specs.Locks.{Forms, Parts}

-- an equation: the sum of a block, by its first place and its size, or the product of two places
pub data Equation : Type 0 where
  whole : ℕ → ℕ → Equation
  pair : ℕ → ℕ → Equation

-- the place i with each of the n places from j on
abbrev pub pairs_with : ℕ → ℕ → ℕ → List Equation
pairs_with i j zero = []
pairs_with i j (suc n) = pair i j ∷ pairs_with i (suc j) n

-- the pairs of the n places from i on, in dictionary order
abbrev pub pairs : ℕ → ℕ → List Equation
pairs i zero = []
pairs i (suc n) = pairs_with i (suc i) n ++ pairs (suc i) n

-- the sum and the pairs of the n places from i on
abbrev pub block : ℕ → ℕ → List Equation
block i n = whole i n ∷ pairs i n

-- count blocks of n places each, from i on
abbrev pub blocks : ℕ → ℕ → ℕ → List Equation
blocks n i zero = []
blocks n i (suc count) = block i n ++ blocks n (i + n) count

-- how many pairs n places have: (n - 1) + (n - 2) + .. + 0
abbrev pub triangle : ℕ → ℕ
triangle zero = 0
triangle (suc n) = n + triangle n

-- how many places a block has
abbrev pub side : Shape → ℕ
side s = s.m / s.w

-- w divides m, and a block has two places or more
abbrev pub divided : Shape → Bool
divided s = nat_le 1 s.w && (s.m % s.w == 0 && nat_le 2 (side s))

-- equation number j
abbrev pub equation : Shape → ℕ → Equation
equation s j = slice_index_or (blocks (side s) 0 s.w) j (pair 0 0)

module _ {F : Type 0} (o : Ops F) where
  -- the first factor of an equation, at the level s and its word x
  abbrev pub first : F → List F → Equation → F
  first s x (whole i n) = s
  first s x (pair i j) = item o x i

  -- the second factor: what a sum is above the level, or the second place
  abbrev pub second : F → List F → Equation → F
  second s x (whole i n) = minus o (sum_from o (item o x) i n) s
  second s x (pair i j) = item o x j

  -- the value of an equation
  abbrev pub worth : F → List F → Equation → F
  worth s x e = o.times (first s x e) (second s x e)

  -- its cross term, between two levels and their words
  abbrev pub crossed : F → List F → F → List F → Equation → F
  crossed s x t y e = o.plus (o.times (first s x e) (second t y e)) (o.times (first t y e) (second s x e))

  -- one of the n places from i on is [1], and all others are [0]
  abbrev pub OneHot : (ℕ → F) → ℕ → ℕ → Type 0
  OneHot x i n = (t : ℕ) × (i ≤ t) × (t < i + n) × (x t ≡ o.one) × ((r : ℕ) → i ≤ r → r < i + n → (r ≢ t) → x r ≡ o.zero)

  -- each block of the word of u at level one has exactly one [1], and otherwise [0]
  abbrev pub Blocked : Problem F → List F → Type 0
  Blocked p u = (b : ℕ) → b < p.shape.w → OneHot (λ t. coordinate o p t o.one u) (b * side p.shape) (side p.shape)

  -- how many elements have the number n
  abbrev pub counted : ℕ → List F → ℕ
  counted n xs = count_by (λ x. nat_eq (o.number x) n) xs

  -- one element has number 1, and all others number 0
  abbrev pub hot : List F → Bool
  hot xs = counted 1 xs == 1 && counted 0 xs + 1 == length xs

  -- so have the count blocks of n elements that a list begins with
  abbrev pub all_hot : ℕ → ℕ → List F → Bool
  all_hot n zero xs = true
  all_hot n (suc count) xs = hot (take n xs) && all_hot n count (drop n xs)

  -- the unknowns are x_A; E_j is s (Σ x - s) for the sum of a block, and x_i x_j for a pair
  abbrev pub regular : Forms F
  regular = record {
    admits = divided;
    unknowns = λ s. s.k;
    equations = λ s. s.w * (1 + triangle (side s));
    form = λ p j s u. worth s (word o p s u) (equation p.shape j);
    cross = λ p j u v. crossed o.one (word o p o.one u) o.zero (word o p o.zero v) (equation p.shape j);
    Solves = Blocked;
    wanted = λ s x. all_hot (side s) s.w x;
    secret = λ s x. take s.k x;
  }

  -- the word, and the level after it
  abbrev pub word_and_level : Parts F
  word_and_level = record { count = λ s. s.m + 1; all = λ p s u. word o p s u ++ (s ∷ []) }
