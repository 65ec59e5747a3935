-- What a lock is asked about, and the word x = (x_A | y s - H' x_A) that unknowns stand for at a level s. Assumes nothing.
use Rattle.std.specs.Prelude.{◌≡◌, ℕ, zero, suc, ◌+◌, ◌-◌, ◌*◌, ◌<◌, cond, List, [], ◌∷◌, length, ◌==◌, nat_lt, slice_index_or}
use Rattle.algebra.specs.Fields.{Ops}
use Rattle.algebra.specs.Sums.{sum_from, minus}
use Rattle.lock.specs.declared.profile.Shape.{Shape}
use Rattle.lock.specs.declared.instance.Instance.{Instance}

-- the numbers of a lock, its matrix H' of m - k rows and k columns, column after column, and its target y of m - k elements
pub record Problem (F : Type 0) : Type 0 where
  pub shape : Shape
  pub matrix : List F
  pub target : List F

-- what an instance holds, without where it is lent from
abbrev pub given : {F : Type 0} → Instance F → Problem F
given p = record { shape = p.shape; matrix = p.matrix.now; target = p.target.now }

-- the matrix and the target have as many elements as the numbers say
pub record Fits {F : Type 0} (p : Problem F) : Type 0 where
  pub rows : length p.target ≡ p.shape.m - p.shape.k
  pub cells : length p.matrix ≡ p.shape.k * (p.shape.m - p.shape.k)

-- f i, f (i + 1), .., n of them
abbrev pub listed : {F : Type 0} → (ℕ → F) → ℕ → ℕ → List F
listed f i zero = []
listed f i (suc n) = f i ∷ listed f (suc i) n

module _ {F : Type 0} (o : Ops F) where
  -- the element at a place of a list, and zero past its end
  abbrev pub item : List F → ℕ → F
  item xs i = slice_index_or xs i o.zero

  -- H' at row r and column c
  abbrev pub cell : Problem F → ℕ → ℕ → F
  cell p r c = item p.matrix (c * (p.shape.m - p.shape.k) + r)

  -- row r of H' x_A
  abbrev pub row_sum : Problem F → List F → ℕ → F
  row_sum p u r = sum_from o (λ c. o.times (cell p r c) (item u c)) 0 p.shape.k

  -- the element of x at place i: an unknown, or one of y s - H' x_A
  abbrev pub entry : Problem F → ℕ → F → List F → F
  entry p i s u = cond (nat_lt i p.shape.k) (item u i) (minus o (o.times (item p.target (i - p.shape.k)) s) (row_sum p u (i - p.shape.k)))

  -- the word x at the level s, of m elements
  unfoldable pub word : Problem F → F → List F → List F
  word p s u = listed (λ i. entry p i s u) 0 p.shape.m

  -- x_i
  abbrev pub coordinate : Problem F → ℕ → F → List F → F
  coordinate p i s u = item (word p s u) i

  -- H = (H' | I) at row r and column c
  abbrev pub wide : Problem F → ℕ → ℕ → F
  wide p r c = cond (nat_lt c p.shape.k) (cell p r c) (cond (c - p.shape.k == r) o.one o.zero)

  -- row r of H x
  abbrev pub product : Problem F → List F → ℕ → F
  product p x r = sum_from o (λ c. o.times (wide p r c) (item x c)) 0 p.shape.m

  -- H x = y
  abbrev pub Satisfies : Problem F → List F → Type 0
  Satisfies p x = (r : ℕ) → r < p.shape.m - p.shape.k → product p x r ≡ item p.target r
