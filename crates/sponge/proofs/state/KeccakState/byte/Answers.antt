use Rattle.std.proofs.Common.{◌≡◌, ◌+◌, ◌*◌, ◌/◌, ◌%◌, ap, ◌∙◌, arith}
use Rattle.sponge.specs.Shake.{byte_at}
use Rattle.sponge.proofs.state.KeccakState.byte.Goals as goal

pub returns : goal.returns
returns c =
    let at : 8 * (c.args.at / 8) + c.args.at % 8 ≡ c.args.at = omega arith in
    c.lane.ensures (c.args.at % 8) (omega arith) ∙ ap (byte_at c.args.self.now.lanes) at
