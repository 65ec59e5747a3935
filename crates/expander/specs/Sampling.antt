-- Where a sampler stands in the stream that its source gives, and what it draws from it. Assumes nothing.
use Rattle.std.specs.Prelude.{◌≡◌, ℕ, ◌+◌, ◌-◌, ◌<◌, List, slice_index}
use Rattle.expander.specs.declared.sampler.Sampler.{Sampler}
use Rattle.expander.specs.Streams.{window, drawn, after}

module _ {S : Type 0} (gives : S → (ℕ → ℕ) → ℕ → Type 0) where
  -- the bytes of the pair from `at` up to place 16 are those of f from k on, and the source goes on after them
  pub record Stands (source : S) (pair : List ℕ) (at : ℕ) (f : ℕ → ℕ) (k : ℕ) : Type 0 where
    pub held : (j : ℕ) → j < 16 - at → slice_index pair (at + j) ≡ f (k + j)
    pub rest : gives source f (k + (16 - at))

  -- the sampler takes next the byte k of f
  unfoldable pub Sampling : Sampler S → (ℕ → ℕ) → ℕ → Type 0
  Sampling s f k = Stands s.source s.pair s.at f k

  -- s draws x as the next of its stream, and is t then
  abbrev pub DrawsOne : {F : Type 0} → (List ℕ → F × ℕ) → Sampler S → F → Sampler S → Type 0
  DrawsOne sampled s x t = (f : ℕ → ℕ) (k : ℕ) → Sampling s f k → (x ≡ (sampled (window f k 16)).0) × Sampling t f (k + (sampled (window f k 16)).1)

  -- s draws the elements as the next n of its stream, and is t then
  abbrev pub Draws : {F : Type 0} → (List ℕ → F × ℕ) → Sampler S → ℕ → List F → Sampler S → Type 0
  Draws sampled s n xs t = (f : ℕ → ℕ) (k : ℕ) → Sampling s f k → (xs ≡ drawn sampled f k n) × Sampling t f (after sampled f k n)
