use Rattle.std.proofs.Common.{refl}
use Rattle.sponge.specs.Shake.{with_byte}
use Rattle.sponge.proofs.state.KeccakState.mix.Goals as goal

pub returns : goal.returns
unfolding with_byte
returns c = refl
