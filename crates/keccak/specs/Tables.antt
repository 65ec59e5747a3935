-- The rules of FIPS 202 for the two tables of Keccak-f[1600]. Assumes nothing.
use Rattle.std.specs.Prelude.{ℕ, zero, suc, ◌+◌, ◌-◌, ◌*◌, ◌/◌, ◌%◌, ◌^◌, cond, List, map, replicate, bit_xor, nat_lt, slice_set}
use Rattle.std.specs.List.{range_with_len}

-- n steps of the walk over the lanes from (x, y), the t-th of which writes the t-th triangular number
unfoldable pub walk : ℕ → ℕ → ℕ → ℕ → List ℕ → List ℕ
walk zero t x y s = s
walk (suc n) t x y s = walk n (t + 1) y ((2 * x + 3 * y) % 5) (slice_set s (x + 5 * y) ((t + 1) * (t + 2) / 2 % 64))

-- how far each lane is turned: 0 at (0, 0), and at the others what the walk from (1, 0) writes
unfoldable pub offsets : List ℕ
offsets = walk 24 0 1 0 (replicate 25 0)

-- one step of the register, modulo x^8 + x^6 + x^5 + x^4 + 1
unfoldable pub shifted : ℕ → ℕ
shifted r = cond (nat_lt r 128) (r * 2) (bit_xor (r * 2) 0x171)

-- the register after t steps
unfoldable pub register : ℕ → ℕ
register zero = 1
register (suc t) = shifted (register t)

-- bit 2^j - 1 of round r's constant is the register's low bit after j + 7 * r steps
unfoldable pub constant_bit : ℕ → ℕ → ℕ
constant_bit r j = register (j + 7 * r) % 2 * 2 ^ (2 ^ j - 1)

-- the constant of round r: its bits 0, 1, 3, 7, 15, 31 and 63
unfoldable pub constant_of : ℕ → ℕ
constant_of r =
    constant_bit r 0 + constant_bit r 1 + constant_bit r 2 + constant_bit r 3 + constant_bit r 4 + constant_bit r 5 + constant_bit r 6

-- the constants of the 24 rounds
unfoldable pub constants : List ℕ
constants = map constant_of (range_with_len 0 24)
