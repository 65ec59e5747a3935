use Rattle.std.proofs.Common.{◌≡◌, ◌+◌, [], ◌∷◌, get_or, ap, ◌∙◌, refl, arith}
use Rattle.sponge.specs.Shake.{byte_at}
use Rattle.sponge.proofs.Steps.{given}
use Rattle.sponge.proofs.state.Sponge.get_byte.Goals as goal

pub returns : goal.returns
returns c =
    let s = c.args.self.now in
    let b = c.byte-byte.result in
    given s _ c.advance.new.self 1 (b ∷ []) (omega arith) refl refl refl refl
    (λ j lt.
    let first : j ≡ 0 = omega arith in
    let at : c.args.self.now.pos ≡ c.args.self.now.pos + j = omega arith in
    ap (λ i. get_or (b ∷ []) i 0) first ∙ c.byte-byte.ensures ∙ ap (byte_at s.state.lanes) at) c.advance.ensures
