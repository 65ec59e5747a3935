use Rattle.std.proofs.Common.{get_or, ap, ◌∙◌}
use Rattle.sponge.proofs.Lanes.{lane_byte}
use Rattle.sponge.proofs.state.KeccakState.lane.Goals as goal

pub returns : goal.returns
returns c = λ j lt. ap (λ bs. get_or bs j 0) c.to_le_bytes.ensures ∙ lane_byte c.args.self.now.lanes c.args.at j lt
