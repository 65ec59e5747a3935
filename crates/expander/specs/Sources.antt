-- Where the two sources stand in the streams that they give. Assumes nothing.
use Rattle.std.specs.Prelude.{◌≡◌, ℕ, ◌/◌, ◌%◌, ◌^◌, List}
use Rattle.hashes.specs.Hashes.{Streaming}
use Rattle.sponge.specs.declared.state.Sponge.{Sponge}
use Rattle.expander.specs.Streams.{seed_stream, tagged_stream}
use Rattle.expander.specs.declared.seeds.SeedStream.{SeedStream}

-- what an expander E keeps of its key, and how it expands it
module _ {E : Type 0} (block : List ℕ → List ℕ → ℕ → List ℕ) (salt_of seed_of : E → List ℕ) where
  -- f is the stream of the seed, and its next block begins at place k
  pub record AtBlock (s : SeedStream E) (f : ℕ → ℕ) (k : ℕ) : Type 0 where
    pub stream : f ≡ seed_stream block (salt_of s.expander) (seed_of s.expander)
    pub begins : k % 16 ≡ 0
    pub number : s.next ≡ k / 16 % 2 ^ 64

-- f is S(tag, message), and the sponge gives next its byte k
pub record AtByte (s : Sponge) (f : ℕ → ℕ) (k : ℕ) : Type 0 where
  pub tag : ℕ
  pub message : List ℕ
  pub stream : f ≡ tagged_stream tag message
  pub place : Streaming s tag message k
