use Rattle.std.proofs.Common.{refl}
use Rattle.sponge.specs.Shake.{mixed, blocks}
use Rattle.sponge.specs.Sponges.{held, Absorbed}
use Rattle.sponge.proofs.state.Sponge.new.Goals as goal

pub returns : goal.returns
unfolding held mixed blocks Absorbed
returns c = record { mode = refl; pos = refl; lanes = refl }
