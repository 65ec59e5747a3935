-- Theorems on SHAKE256 as it is defined here. Assumes nothing.
use Rattle.std.specs.Prelude.{◌≡◌, ℕ, ◌+◌, ◌<◌, ◌≤◌, List, ◌++◌, length, bit_xor, slice_index}
use Rattle.sponge.specs.Shake.{byte_at, mixed, shake}

-- pieces of the output, one after the other, are one piece
abbrev pub PiecesJoin : Type 0
PiecesJoin = (m : List ℕ) (k n o : ℕ) → shake m k n ++ shake m (k + n) o ≡ shake m k (n + o)

-- to mix a block in is to xor the first bytes of the state with it, and to leave the others
abbrev pub MixingIsXor : Type 0
MixingIsXor = (bs s : List ℕ) (k : ℕ) → ((i : ℕ) → slice_index bs i < 256) → length bs ≤ 136 → length s ≡ 25
    → byte_at (mixed 0 bs s) k ≡ bit_xor (byte_at s k) (slice_index bs k)
