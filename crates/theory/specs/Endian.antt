-- Numbers as bytes. Assumes nothing.
use Rattle.std.specs.Prelude.{ℕ, zero, suc, ◌+◌, ◌*◌, ◌/◌, ◌%◌, List, [], ◌∷◌, reverse}

-- v in n bytes, the lowest first
abbrev pub little_endian : ℕ → ℕ → List ℕ
little_endian zero v = []
little_endian (suc n) v = v % 256 ∷ little_endian n (v / 256)

-- v in n bytes, the highest first
abbrev pub big_endian : ℕ → ℕ → List ℕ
big_endian n v = reverse (little_endian n v)

-- the number that bytes stand for, the lowest first
abbrev pub little_value : List ℕ → ℕ
little_value [] = 0
little_value (b ∷ bs) = b + 256 * little_value bs

-- the number that bytes stand for, the highest first
abbrev pub big_value : List ℕ → ℕ
big_value bs = little_value (reverse bs)
