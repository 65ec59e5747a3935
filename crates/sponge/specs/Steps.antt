-- What the sponge's private functions do. Assumes nothing.
use Rattle.std.specs.Prelude.{◌≡◌, ℕ, ◌+◌, ◌<◌}
use Rattle.sponge.specs.declared.state.Sponge.{Sponge}
use Rattle.keccak.specs.Keccak.{permuted}

-- s is t when it has gone n bytes on in its block
pub record Advanced (s : Sponge) (n : ℕ) (t : Sponge) : Type 0 where
  pub full : s.pos + n ≡ 136 → (t.state.lanes ≡ permuted s.state.lanes) × (t.pos ≡ 0)
  pub more : s.pos + n < 136 → (t.state.lanes ≡ s.state.lanes) × (t.pos ≡ s.pos + n)
  pub mode : t.mode ≡ s.mode
