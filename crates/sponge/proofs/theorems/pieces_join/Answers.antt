use Rattle.sponge.proofs.Outputs.{shake_join}
use Rattle.sponge.proofs.theorems.pieces_join.Goals as goal

pub returns : goal.returns
returns c = shake_join
