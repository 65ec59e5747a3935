use Rattle.std.proofs.Common.{get_or, set, ap, ◌∙◌, arith}
use lib.Bits.{bit_xor}
use Rattle.sponge.proofs.Lanes.{mixed_eight}
use Rattle.sponge.proofs.state.KeccakState.mix_lane.Goals as goal

pub returns : goal.returns
returns c =
    let lanes = c.args.self.now.lanes in
    let at = c.args.at in
    ap (λ v. set lanes at (bit_xor (get_or lanes at 0) v)) c.from_le_bytes.ensures ∙ mixed_eight c.args.bytes.now lanes at c.fits-bytes c.told-bytes (omega arith)
