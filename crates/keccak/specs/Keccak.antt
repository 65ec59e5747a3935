-- Keccak-f[1600] (FIPS 202) on a list of 25 lanes of 64 bits, lane (x, y) at x + 5 * y. A sum is over the field of two elements: a xor. Assumes nothing.
use Rattle.std.specs.Prelude.{ℕ, zero, suc, ◌+◌, ◌-◌, ◌*◌, ◌/◌, ◌%◌, ◌^◌, List, map, bit_and, bit_or, bit_xor, slice_index, slice_set}
use Rattle.std.specs.List.{range_with_len}
use Rattle.keccak.specs.Tables.{offsets, constants}

-- the lanes whose i-th is f i
abbrev pub lanes : (ℕ → ℕ) → List ℕ
lanes f = map f (range_with_len 0 25)

-- a turned left by k of 64 bits
abbrev pub turned : ℕ → ℕ → ℕ
turned a k = bit_or ((a * 2 ^ (k % 64)) % 2 ^ 64) (a / 2 ^ ((64 - k % 64) % 64))

-- the 64 bits of a, each turned over
abbrev pub complement : ℕ → ℕ
complement a = (2 ^ 64 - 1) - a

-- the sum of column x
abbrev pub column : List ℕ → ℕ → ℕ
column s x = bit_xor (bit_xor (bit_xor (bit_xor (slice_index s x) (slice_index s (x + 5))) (slice_index s (x + 10))) (slice_index s (x + 15))) (slice_index s (x + 20))

unfoldable pub theta_at : List ℕ → ℕ → ℕ
theta_at s i = bit_xor (slice_index s i) (bit_xor (column s ((i + 4) % 5)) (turned (column s ((i + 1) % 5)) 1))

-- adds to each lane the column to its left, and that to its right turned by one
unfoldable pub theta : List ℕ → List ℕ
theta s = lanes (theta_at s)

abbrev pub rho_at : List ℕ → ℕ → ℕ
rho_at s i = turned (slice_index s i) (slice_index offsets i)

-- turns each lane by its offset
unfoldable pub rho : List ℕ → List ℕ
rho s = lanes (rho_at s)

abbrev pub pi_at : List ℕ → ℕ → ℕ
pi_at s i = slice_index s ((i % 5 + 3 * (i / 5)) % 5 + 5 * (i % 5))

-- moves to (x, y) the lane (x + 3 * y, x)
unfoldable pub pi : List ℕ → List ℕ
pi s = lanes (pi_at s)

abbrev pub chi_at : List ℕ → ℕ → ℕ
chi_at s i = bit_xor (slice_index s i) (bit_and (complement (slice_index s (5 * (i / 5) + (i + 1) % 5))) (slice_index s (5 * (i / 5) + (i + 2) % 5)))

-- adds to each lane the product of its row's next, complemented, and the one after it
unfoldable pub chi : List ℕ → List ℕ
chi s = lanes (chi_at s)

-- adds the constant of round r to lane (0, 0)
unfoldable pub iota : ℕ → List ℕ → List ℕ
iota r s = slice_set s 0 (bit_xor (slice_index s 0) (slice_index constants r))

-- round r
unfoldable pub round_of : ℕ → List ℕ → List ℕ
round_of r s = iota r (chi (pi (rho (theta s))))

-- the first n rounds
unfoldable pub rounds : ℕ → List ℕ → List ℕ
rounds zero s = s
rounds (suc n) s = round_of n (rounds n s)

-- Keccak-f[1600]
unfoldable pub permuted : List ℕ → List ℕ
permuted s = rounds 24 s
