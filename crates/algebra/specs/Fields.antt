-- What a finite field is. Assumes nothing.
use Rattle.std.specs.Prelude.{◌≡◌, ℕ, ◌<◌, ◌≤◌, ◌⊎◌, List, length, take, ◌≢◌}

-- The operations of a field of `size` elements: `element n` is element number n, [n], and `number` goes back.
pub record Ops (F : Type 0) : Type 0 where
  pub zero : F
  pub one : F
  pub plus : F → F → F
  pub times : F → F → F
  pub negate : F → F
  pub inverse : F → F
  pub number : F → ℕ
  pub element : ℕ → F
  pub size : ℕ

module _ {F : Type 0} (o : Ops F) where
  -- sums and products are those of a commutative ring
  pub record Ring : Type 0 where
    pub plus_comm : (x y : F) → o.plus x y ≡ o.plus y x
    pub plus_assoc : (x y z : F) → o.plus (o.plus x y) z ≡ o.plus x (o.plus y z)
    pub plus-zero : (x : F) → o.plus x o.zero ≡ x
    pub plus-negate : (x : F) → o.plus x (o.negate x) ≡ o.zero
    pub times_comm : (x y : F) → o.times x y ≡ o.times y x
    pub times_assoc : (x y z : F) → o.times (o.times x y) z ≡ o.times x (o.times y z)
    pub times-one : (x : F) → o.times x o.one ≡ x
    pub distrib : (x y z : F) → o.times x (o.plus y z) ≡ o.plus (o.times x y) (o.times x z)

  -- the elements are numbered from 0 to size - 1, one-to-one, zero and one first
  pub record Numbered : Type 0 where
    pub number-below : (x : F) → o.number x < o.size
    pub number_element : (n : ℕ) → n < o.size → o.number (o.element n) ≡ n
    pub element-number : (x : F) → o.element (o.number x) ≡ x
    pub number-zero : o.number o.zero ≡ 0
    pub number-one : o.number o.one ≡ 1

  -- a product is zero only if a factor is
  abbrev pub ZeroProduct : Type 0
  ZeroProduct = (x y : F) → o.times x y ≡ o.zero → (x ≡ o.zero) ⊎ (y ≡ o.zero)

-- a field of 250 to 256 numbered elements, in which the inverse of zero is answered as zero
pub record Laws {F : Type 0} (o : Ops F) : Type 0 where
  pub ring : Ring o
  pub times-inverse : (x : F) → (x ≢ o.zero) → o.times x (o.inverse x) ≡ o.one
  pub inverse-zero : o.inverse o.zero ≡ o.zero
  pub numbered : Numbered o
  pub size_low : 250 ≤ o.size
  pub size_high : o.size ≤ 256

-- a sample of sixteen bytes uses from one to sixteen of them, and depends on those alone
pub record Reads {F : Type 0} (sampled : List ℕ → F × ℕ) : Type 0 where
  pub some : (bs : List ℕ) → length bs ≡ 16 → 1 ≤ (sampled bs).1
  pub most : (bs : List ℕ) → length bs ≡ 16 → (sampled bs).1 ≤ 16
  pub only : (bs cs : List ℕ) → length bs ≡ 16 → length cs ≡ 16 → take (sampled bs).1 bs ≡ take (sampled bs).1 cs → sampled bs ≡ sampled cs
