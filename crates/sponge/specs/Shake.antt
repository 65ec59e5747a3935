-- SHAKE256 (FIPS 202) in blocks of 136 bytes, over a state of 25 lanes whose byte p is byte p % 8, the lowest first, of lane p / 8. Assumes nothing.
use Rattle.std.specs.Prelude.{ℕ, zero, suc, ◌+◌, ◌-◌, ◌*◌, ◌/◌, ◌%◌, ◌^◌, List, [], ◌∷◌, ◌++◌, map, length, take, drop, replicate, bit_xor, slice_index, slice_set}
use Rattle.std.specs.List.{range_with_len}
use Rattle.keccak.specs.Keccak.{permuted}

-- byte p of the state
unfoldable pub byte_at : List ℕ → ℕ → ℕ
byte_at s p = slice_index s (p / 8) / 2 ^ (8 * (p % 8)) % 256

-- the state with b xored into its byte p
unfoldable pub with_byte : List ℕ → ℕ → ℕ → List ℕ
with_byte s p b = slice_set s (p / 8) (bit_xor (slice_index s (p / 8)) (b * 2 ^ (8 * (p % 8)) % 2 ^ 64))

-- the state with the bytes xored into its bytes from p on
unfoldable pub mixed : ℕ → List ℕ → List ℕ → List ℕ
mixed p [] s = s
mixed p (b ∷ bs) s = mixed (p + 1) bs (with_byte s p b)

-- what pads a block that lacks n + 1 bytes: 0x1f and n zeros, with 0x80 xored into the last of them
unfoldable pub ending : ℕ → List ℕ
ending n = slice_set (0x1f ∷ replicate n 0) n (bit_xor (slice_index (0x1f ∷ replicate n 0) n) 0x80)

-- the message made a whole number of blocks
unfoldable pub padded : List ℕ → List ℕ
padded m = m ++ ending (135 - length m % 136)

-- the state after the first n blocks
unfoldable pub blocks : ℕ → List ℕ → List ℕ
blocks zero bs = replicate 25 0
blocks (suc n) bs = permuted (mixed 0 (take 136 (drop (136 * n) bs)) (blocks n bs))

-- the state after all blocks of the padded message
unfoldable pub closed : List ℕ → List ℕ
closed m = blocks (length (padded m) / 136) (padded m)

-- the state after n permutations
unfoldable pub after : ℕ → List ℕ → List ℕ
after zero s = s
after (suc n) s = permuted (after n s)

-- byte k of the output
unfoldable pub shake_byte : List ℕ → ℕ → ℕ
shake_byte m k = byte_at (after (k / 136) (closed m)) (k % 136)

-- the n bytes of the output from byte k on
unfoldable pub shake : List ℕ → ℕ → ℕ → List ℕ
shake m k n = map (λ j. shake_byte m (k + j)) (range_with_len 0 n)
