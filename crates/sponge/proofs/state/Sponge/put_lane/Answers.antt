use Rattle.std.proofs.Common.{◌≡◌, ◌*◌, ◌/◌, ap, ◌∙◌, refl, arith}
use Rattle.sponge.specs.Shake.{mixed}
use Rattle.sponge.proofs.Steps.{taken}
use Rattle.sponge.proofs.state.Sponge.put_lane.Goals as goal

pub returns : goal.returns
returns c =
    let s = c.args.self.now in
    let at : 8 * (c.args.self.now.pos / 8) ≡ c.args.self.now.pos = omega arith in
    taken s _ c.advance.new.self 8 c.args.bytes.now (omega arith) c.told-bytes refl refl
    (c.mix_lane.ensures ∙ ap (λ p. mixed p c.args.bytes.now s.state.lanes) at) c.advance.ensures
