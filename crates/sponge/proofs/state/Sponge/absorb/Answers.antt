use Rattle.std.proofs.Common.{rules}
use Rattle.sponge.specs.Sponges.{Absorbed, Turned}
use Rattle.sponge.proofs.state.Sponge.absorb.Goals as goal

pub returns-in-Absorbing : goal.returns-in-Absorbing
unfolding Absorbed Turned
returns-in-Absorbing c = search rules

pub returns-in-Squeezing : goal.returns-in-Squeezing
unfolding Absorbed Turned
returns-in-Squeezing c = search rules
