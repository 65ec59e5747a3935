-- The tagged hashes: SHAKE256 over a tag byte and a message. Assumes nothing.
use Rattle.std.specs.Prelude.{ℕ, List, ◌∷◌}
use Rattle.hashes.specs.declared.hasher.Hasher.{Hasher}
use Rattle.sponge.specs.declared.state.Sponge.{Sponge}
use Rattle.sponge.specs.Shake.{shake}
use Rattle.sponge.specs.Sponges.{Absorbed, Turned}

-- H(tag, m), of 32 bytes
abbrev pub hash_of : ℕ → List ℕ → List ℕ
hash_of tag m = shake (tag ∷ m) 0 32

-- the n bytes of S(tag, m) from byte k on
abbrev pub stream_of : ℕ → List ℕ → ℕ → ℕ → List ℕ
stream_of tag m k n = shake (tag ∷ m) k n

-- the sponge gives next the byte k of S(tag, m)
abbrev pub Streaming : Sponge → ℕ → List ℕ → ℕ → Type 0
Streaming s tag m k = Turned s (tag ∷ m) k

-- the hasher has taken m after its tag
abbrev pub Hashing : Hasher → ℕ → List ℕ → Type 0
Hashing h tag m = Absorbed h.sponge (tag ∷ m)
