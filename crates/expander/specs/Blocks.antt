-- The blocks that a salt and a seed of sixteen bytes are expanded to, by number. Assumes nothing.
use Rattle.std.specs.Prelude.{ℕ, List, ◌++◌, map, bit_xor, slice_index}
use Rattle.std.specs.List.{range_with_len}
use Rattle.cipher.specs.Cipher.{encrypted}
use Rattle.hashes.specs.Hashes.{stream_of}
use Rattle.theory.specs.Endian.{little_endian, big_endian}

-- sixteen bytes and sixteen others, xored byte by byte
unfoldable pub xored : List ℕ → List ℕ → List ℕ
xored a b = map (λ i. bit_xor (slice_index a i) (slice_index b i)) (range_with_len 0 16)

-- AES-128 under the seed, of the salt xored with the number, its lowest byte first
unfoldable pub aes_block : List ℕ → List ℕ → ℕ → List ℕ
aes_block salt seed number = encrypted seed (xored salt (little_endian 16 number))

-- the first sixteen bytes of S(09, salt, seed, number), the number in eight bytes, its highest first
unfoldable pub shake_block : List ℕ → List ℕ → ℕ → List ℕ
shake_block salt seed number = stream_of 0x09 (salt ++ seed ++ big_endian 8 number) 0 16
