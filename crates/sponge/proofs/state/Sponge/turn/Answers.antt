use Rattle.std.proofs.Common.{sym, refl, ap, ◌∙◌, ap₂}
use Rattle.keccak.specs.Keccak.{permuted}
use Rattle.sponge.specs.Shake.{with_byte, after}
use Rattle.sponge.specs.Sponges.{Absorbed, Turned}
use Rattle.sponge.proofs.Blocks.{closing}
use Rattle.sponge.proofs.state.Sponge.turn.Goals as goal

pub returns : goal.returns
unfolding after Absorbed Turned
returns c = λ m a.
    record {
      mode = refl;
      pos = refl;
      lanes =
          c.permute.ensures
          ∙ ap permuted (c.mix-2.ensures ∙ ap (λ l. with_byte l 135 0x80) (c.mix.ensures ∙ ap₂ (λ l p. with_byte l p 0x1f) a.lanes a.pos))
          ∙ sym (closing m);
    }
