-- The field of 256 elements on bytes: the bits of a byte are the coefficients of a polynomial over {0, 1}, the lowest first, and
-- products are taken modulo x^8 + x^4 + x^3 + x + 1. Assumes nothing.
use Rattle.std.specs.Prelude.{ℕ, zero, suc, ◌*◌, ◌/◌, ◌%◌, bit_xor}

-- b times x: moved up by one, and x^4 + x^3 + x + 1 added where x^8 came out
unfoldable pub double : ℕ → ℕ
double b = bit_xor ((b % 128) * 2) (27 * (b / 128))

-- the sum of b times x^i over the bits i of a that are set, a having k bits
unfoldable pub product_of : ℕ → ℕ → ℕ → ℕ
product_of zero a b = 0
product_of (suc k) a b = bit_xor ((a % 2) * b) (product_of k (a / 2) (double b))

unfoldable pub times : ℕ → ℕ → ℕ
times a b = product_of 8 a b

-- r times a^2, a^4, and so on, k factors
unfoldable pub squares : ℕ → ℕ → ℕ → ℕ
squares zero a r = r
squares (suc k) a r = squares k (times a a) (times r (times a a))

-- a^254, the product of a^2 to a^128: the inverse of a, and zero at zero
unfoldable pub inverse : ℕ → ℕ
inverse a = squares 7 a 1
