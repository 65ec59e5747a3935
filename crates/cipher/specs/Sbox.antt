-- The S-box of FIPS 197, section 5.1.1: an affine map of bits after the inverse in GF(256). Assumes nothing.
use Rattle.std.specs.Prelude.{◌≡◌, ℕ, ◌+◌, ◌*◌, ◌/◌, ◌%◌, ◌^◌, ◌<◌, List, slice_index}
use Rattle.algebra.specs.Gf256.{inverse}

-- bit i of b, the lowest being bit 0
abbrev pub bit : ℕ → ℕ → ℕ
bit b i = b / 2 ^ i % 2

-- bit i of the image of b: the sum of five bits of b and of bit i of the constant 63 (hexadecimal)
unfoldable pub affine_bit : ℕ → ℕ → ℕ
affine_bit b i = (bit b i + bit b ((i + 4) % 8) + bit b ((i + 5) % 8) + bit b ((i + 6) % 8) + bit b ((i + 7) % 8) + bit 0x63 i) % 2

-- the byte whose bits are f 0, f 1, .. f 7
unfoldable pub byte_of : (ℕ → ℕ) → ℕ
byte_of f = f 0 + 2 * f 1 + 4 * f 2 + 8 * f 3 + 16 * f 4 + 32 * f 5 + 64 * f 6 + 128 * f 7

unfoldable pub affine : ℕ → ℕ
affine b = byte_of (affine_bit b)

unfoldable pub sbox : ℕ → ℕ
sbox b = affine (inverse b)

-- a table with the S-box at b in each place b
abbrev pub HoldsSbox : List ℕ → Type 0
HoldsSbox table = (b : ℕ) → b < 256 → slice_index table b ≡ sbox b
