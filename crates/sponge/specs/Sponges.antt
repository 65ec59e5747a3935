-- What a sponge holds, and what absorbing and squeezing do. Assumes nothing.
use Rattle.std.specs.Prelude.{◌≡◌, ℕ, ◌+◌, ◌*◌, ◌/◌, ◌%◌, List, ◌++◌, length, drop, Ok, Err, Result}
use Rattle.refusal.specs.declared.Refusal.{Refusal}
use Rattle.refusal.specs.declared.Refusal.TheVariants.{SpongeTurned}
use Rattle.sponge.specs.declared.state.Sponge.{Sponge}
use Rattle.sponge.specs.declared.state.Mode.TheVariants.{Absorbing, Squeezing}
use Rattle.sponge.specs.Shake.{mixed, blocks, closed, after, shake}

-- q blocks of m permuted in, and the rest mixed in
abbrev pub held_at : ℕ → List ℕ → List ℕ
held_at q m = mixed 0 (drop (136 * q) m) (blocks q m)

-- the lanes when m was absorbed
unfoldable pub held : List ℕ → List ℕ
held m = held_at (length m / 136) m

pub record Holds (s : Sponge) (m : List ℕ) : Type 0 where
  pub mode : s.mode ≡ Absorbing
  pub pos : s.pos ≡ length m % 136
  pub lanes : s.state.lanes ≡ held m

-- the sponge has absorbed m, and has given nothing
unfoldable pub Absorbed : Sponge → List ℕ → Type 0
Absorbed s m = Holds s m

pub record Streams (s : Sponge) (m : List ℕ) (k : ℕ) : Type 0 where
  pub mode : s.mode ≡ Squeezing
  pub pos : s.pos ≡ k % 136
  pub lanes : s.state.lanes ≡ after (k / 136) (closed m)

-- the sponge has absorbed m, and has given k bytes
unfoldable pub Turned : Sponge → List ℕ → ℕ → Type 0
Turned s m k = Streams s m k

-- s takes the bytes as the next of its message, and is t then
abbrev pub Takes : Sponge → List ℕ → Sponge → Type 0
Takes s bs t = (m : List ℕ) → Absorbed s m → Absorbed t (m ++ bs)

-- s, which has turned, gives the bytes as the next n of its output, and is t then
abbrev pub Gives : Sponge → ℕ → List ℕ → Sponge → Type 0
Gives s n bs t = (m : List ℕ) (k : ℕ) → Turned s m k → (bs ≡ shake m k n) × Turned t m (k + n)

-- absorbing is refused exactly when the sponge has turned, with nothing changed
abbrev pub AbsorbCall : List ℕ → Sponge → Sponge → Result (Unit {0}) Refusal → Type 0
AbsorbCall bs s t (Ok u) = ((m : List ℕ) (k : ℕ) → Turned s m k → ⊥) × Takes s bs t
AbsorbCall bs s t (Err e) = ((m : List ℕ) → Absorbed s m → ⊥) × (t ≡ s) × (e ≡ SpongeTurned)
