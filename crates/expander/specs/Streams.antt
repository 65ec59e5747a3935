-- Endless streams of bytes, and the elements that are sampled from them. A stream is the function from a place to the byte there.
-- Assumes nothing.
use Rattle.std.specs.Prelude.{ℕ, zero, suc, ◌+◌, ◌/◌, ◌%◌, ◌^◌, List, [], ◌∷◌, map, slice_index}
use Rattle.std.specs.List.{range_with_len}
use Rattle.sponge.specs.Shake.{shake_byte}

-- the n bytes of the stream f from place k on
unfoldable pub window : (ℕ → ℕ) → ℕ → ℕ → List ℕ
window f k n = map (λ j. f (k + j)) (range_with_len 0 n)

-- the stream of a seed is its blocks 0, 1, 2, .. of sixteen bytes; a block's number has 64 bits, and block 0 follows the last
unfoldable pub seed_stream : (List ℕ → List ℕ → ℕ → List ℕ) → List ℕ → List ℕ → ℕ → ℕ
seed_stream block salt seed k = slice_index (block salt seed (k / 16 % 2 ^ 64)) (k % 16)

-- the stream S(tag, m)
unfoldable pub tagged_stream : ℕ → List ℕ → ℕ → ℕ
tagged_stream tag m k = shake_byte (tag ∷ m) k

module _ {F : Type 0} (sampled : List ℕ → F × ℕ) (f : ℕ → ℕ) where
  -- n elements sampled from the stream f from place k on, each from where the one before it ended
  abbrev pub drawn : ℕ → ℕ → List F
  drawn k zero = []
  drawn k (suc n) = (sampled (window f k 16)).0 ∷ drawn (k + (sampled (window f k 16)).1) n

  -- the place where n elements, sampled so, end
  abbrev pub after : ℕ → ℕ → ℕ
  after k zero = k
  after k (suc n) = after (k + (sampled (window f k 16)).1) n
