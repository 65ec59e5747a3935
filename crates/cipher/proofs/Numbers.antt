-- Words as 32-bit numbers, and what is done to all four bytes at once. Assumes nothing.
use Rattle.std.proofs.Common.{◌≡◌, ℕ, ◌+◌, ◌*◌, ◌/◌, ◌%◌, ◌^◌, ◌<◌, List, [], ◌∷◌, get_or, refl, ap, ◌∙◌, ap₂, arith}
use lib.Bits.{bit_and, bit_xor, and_le_r, and_mask, and_mod, and_shr, xor_lt, xor_mod, xor_shr}
use Rattle.algebra.specs.Gf256.{double}
use Rattle.cipher.specs.Word.{NumberOf, four, add_words, double_word}

-- each byte of a word is below m
abbrev pub Below : ℕ → List ℕ → Type 0
Below m a = (get_or a 0 0 < m) × (get_or a 1 0 < m) × (get_or a 2 0 < m) × (get_or a 3 0 < m)

-- the number that four bytes make
abbrev number : ℕ → ℕ → ℕ → ℕ → ℕ
number a0 a1 a2 a3 = a0 + a1 * 256 + a2 * 65536 + a3 * 16777216

-- a number made of four bytes has those bytes
pub number_of : (a : List ℕ) (n : ℕ) → Below 256 a → n ≡ number (get_or a 0 0) (get_or a 1 0) (get_or a 2 0) (get_or a 3 0) → NumberOf a n
number_of a n h e = record { fits = omega arith; first = omega arith; second = omega arith; third = omega arith; fourth = omega arith }

-- a number is what its bytes make
number_is : (a : List ℕ) (n : ℕ) → NumberOf a n → n ≡ number (get_or a 0 0) (get_or a 1 0) (get_or a 2 0) (get_or a 3 0)
number_is a n p = omega arith

-- the bytes of the number of a word
pub four_bytes : (a : List ℕ) (n : ℕ) → NumberOf a n → n % 256 ∷ n / 256 % 256 ∷ n / 65536 % 256 ∷ n / 16777216 % 256 ∷ [] ≡ four (λ k. get_or a k 0)
four_bytes a n p = cc

-- the eight bits of n from bit k on
abbrev part : ℕ → ℕ → ℕ
part n k = n / 2 ^ k % 2 ^ 8

xor-part : (a b k : ℕ) → part (bit_xor a b) k ≡ bit_xor (part a k) (part b k)
xor-part a b k = ap (λ (n : ℕ). n % 2 ^ 8) (xor_shr a b k) ∙ xor_mod (a / 2 ^ k) (b / 2 ^ k) 8

and-part : (a b k : ℕ) → part (bit_and a b) k ≡ bit_and (part a k) (part b k)
and-part a b k = ap (λ (n : ℕ). n % 2 ^ 8) (and_shr a b k) ∙ and_mod (a / 2 ^ k) (b / 2 ^ k) 8

pub add-number : (a b : List ℕ) (m n : ℕ) → NumberOf a m → NumberOf b n → NumberOf (add_words a b) (bit_xor m n)
unfolding add_words
add-number a b m n p q = record {
  fits = xor_lt 32 m n p.fits q.fits;
  first = xor_mod m n 8 ∙ ap₂ bit_xor p.first q.first;
  second = xor-part m n 8 ∙ ap₂ bit_xor p.second q.second;
  third = xor-part m n 16 ∙ ap₂ bit_xor p.third q.third;
  fourth = xor-part m n 24 ∙ ap₂ bit_xor p.fourth q.fourth;
}

-- the low seven bits of each byte
low-number : (a : List ℕ) (n : ℕ) → NumberOf a n → NumberOf (four (λ k. get_or a k 0 % 128)) (bit_and n 0x7f7f7f7f)
low-number a n p =
    let low = λ (x : ℕ). x % 128 in
    record {
      fits = omega (arith, and_le_r n 0x7f7f7f7f);
      first = and_mod n 0x7f7f7f7f 8 ∙ and_mask (n % 256) 7 ∙ ap low p.first;
      second = and-part n 0x7f7f7f7f 8 ∙ and_mask (part n 8) 7 ∙ ap low p.second;
      third = and-part n 0x7f7f7f7f 16 ∙ and_mask (part n 16) 7 ∙ ap low p.third;
      fourth = and-part n 0x7f7f7f7f 24 ∙ and_mask (part n 24) 7 ∙ ap low p.fourth;
    }

-- the top bit of a byte, which is the lowest of n, where m is n without its seven lowest bits
top_bit : (n m : ℕ) → m ≡ n / 128 → bit_and (m % 256) 1 ≡ n % 256 / 128
top_bit n m e =
    let low : m % 256 % 2 ≡ m % 2 = omega arith in
    let top : n / 128 % 2 ≡ n % 256 / 128 = omega arith in
    and_mask (m % 256) 1 ∙ low ∙ ap (λ (x : ℕ). x % 2) e ∙ top

-- the top bit of each byte
top-number : (a : List ℕ) (n : ℕ) → NumberOf a n → NumberOf (four (λ k. get_or a k 0 / 128)) (bit_and (n / 128) 0x01010101)
top-number a n p =
    let m = n / 128 in
    let top = λ (x : ℕ). x / 128 in
    record {
      fits = omega (arith, and_le_r m 0x01010101);
      first = and_mod m 0x01010101 8 ∙ top_bit n m refl ∙ ap top p.first;
      second = and-part m 0x01010101 8 ∙ top_bit (n / 256) (m / 256) (omega arith) ∙ ap top p.second;
      third = and-part m 0x01010101 16 ∙ top_bit (n / 65536) (m / 65536) (omega arith) ∙ ap top p.third;
      fourth = and-part m 0x01010101 24 ∙ top_bit (n / 16777216) (m / 16777216) (omega arith) ∙ ap top p.fourth;
    }

-- small bytes times 2, and bits times 27: nothing is carried from a byte into the next
twice-number : (a : List ℕ) (n : ℕ) → Below 128 a → NumberOf a n → NumberOf (four (λ k. get_or a k 0 * 2)) (n * 2 % 2 ^ 32)
twice-number a n h p = number_of (four (λ k. get_or a k 0 * 2)) (n * 2 % 2 ^ 32) (omega arith, omega arith, omega arith, omega arith) (omega (arith, number_is a n p))

by27-number : (a : List ℕ) (n : ℕ) → Below 2 a → NumberOf a n → NumberOf (four (λ k. 27 * get_or a k 0)) (n * 27)
by27-number a n h p = number_of (four (λ k. 27 * get_or a k 0)) (n * 27) (omega arith, omega arith, omega arith, omega arith) (omega (arith, number_is a n p))

pub double-number : (a : List ℕ) (n : ℕ) → NumberOf a n → NumberOf (double_word a) (bit_xor (bit_and n 0x7f7f7f7f * 2 % 2 ^ 32) (bit_and (n / 128) 0x01010101 * 27))
unfolding add_words double_word double
double-number a n p =
    add-number _ _ _ _
    (twice-number (four (λ k. get_or a k 0 % 128)) (bit_and n 0x7f7f7f7f) (omega arith, omega arith, omega arith, omega arith) (low-number a n p))
    (by27-number (four (λ k. get_or a k 0 / 128)) (bit_and (n / 128) 0x01010101) (omega arith, omega arith, omega arith, omega arith) (top-number a n p))
