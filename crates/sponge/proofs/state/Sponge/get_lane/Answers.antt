use Rattle.std.proofs.Common.{rules, ◌≡◌, ◌+◌, ◌*◌, ◌/◌, ap, ◌∙◌, refl, arith}
use Rattle.sponge.specs.Shake.{byte_at}
use Rattle.sponge.proofs.Steps.{given}
use Rattle.sponge.proofs.state.Sponge.get_lane.Goals as goal

pub returns : goal.returns
returns c =
    let s = c.args.self.now in
    given s _ c.advance.new.self 8 c.lane-lane.result (omega arith) (search rules) refl refl refl
    (λ j lt. let at : 8 * (c.args.self.now.pos / 8) + j ≡ c.args.self.now.pos + j = omega arith in c.lane-lane.ensures j lt ∙ ap (byte_at s.state.lanes) at) c.advance.ensures
