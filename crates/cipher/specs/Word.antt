-- Words of FIPS 197: lists of four bytes. A column of the state is one, and so is a word of the key schedule. Assumes nothing.
use Rattle.std.specs.Prelude.{◌≡◌, ℕ, ◌+◌, ◌/◌, ◌%◌, ◌^◌, ◌<◌, List, [], ◌∷◌, bit_xor, slice_index, slice_index_or}
use Rattle.algebra.specs.Gf256.{double, times}
use Rattle.cipher.specs.Sbox.{sbox}

infixl 60 ◌⊕◌
-- the sum in GF(256)
abbrev pub ◌⊕◌ : ℕ → ℕ → ℕ
a ⊕ b = bit_xor a b

-- f at 0, 1, 2 and 3
abbrev pub four : {X : Type 0} → (ℕ → X) → List X
four f = f 0 ∷ f 1 ∷ f 2 ∷ f 3 ∷ []

-- n is the number whose four bytes are those of a word, the lowest first
pub record NumberOf (a : List ℕ) (n : ℕ) : Type 0 where
  pub fits : n < 2 ^ 32
  pub first : n % 256 ≡ slice_index a 0
  pub second : n / 256 % 256 ≡ slice_index a 1
  pub third : n / 65536 % 256 ≡ slice_index a 2
  pub fourth : n / 16777216 % 256 ≡ slice_index a 3

-- the sum of two words, byte by byte
unfoldable pub add_words : List ℕ → List ℕ → List ℕ
add_words a b = four (λ k. slice_index_or a k 0 ⊕ slice_index_or b k 0)

-- each byte times x
unfoldable pub double_word : List ℕ → List ℕ
double_word a = four (λ k. double (slice_index a k))

-- SubWord: the S-box at each byte
unfoldable pub sub_word : List ℕ → List ℕ
sub_word a = four (λ k. sbox (slice_index a k))

-- RotWord: [a0, a1, a2, a3] becomes [a1, a2, a3, a0]
unfoldable pub rot_word : List ℕ → List ℕ
rot_word a = four (λ k. slice_index a ((k + 1) % 4))

-- MixColumns on one column: the product with the matrix of section 5.1.3, row by row
unfoldable pub mix_column : List ℕ → List ℕ
mix_column s = (times 2 (slice_index s 0) ⊕ times 3 (slice_index s 1) ⊕ slice_index_or s 2 0 ⊕ slice_index_or s 3 0)
    ∷ (slice_index_or s 0 0 ⊕ times 2 (slice_index s 1) ⊕ times 3 (slice_index s 2) ⊕ slice_index_or s 3 0)
    ∷ (slice_index_or s 0 0 ⊕ slice_index_or s 1 0 ⊕ times 2 (slice_index s 2) ⊕ times 3 (slice_index s 3))
    ∷ (times 3 (slice_index s 0) ⊕ slice_index_or s 1 0 ⊕ slice_index_or s 2 0 ⊕ times 2 (slice_index s 3))
    ∷ []
