use Rattle.std.proofs.Common.{ℕ, ◌∷◌, sym, ap, ◌∙◌}
use Rattle.expander.specs.Streams.{window}
use Rattle.expander.proofs.Windows.{window_tagged}
use Rattle.expander.proofs.outputs.SpongeStream.next_block.Goals as goal

pub returns : goal.returns
returns c f k at =
    let given = c.squeeze.ensures.later (at.tag ∷ at.message) k at.place in (
      given.0 ∙ window_tagged at.tag at.message k 16 ∙ sym (ap (λ (h : ℕ → ℕ). window h k 16) at.stream),
      record { tag = at.tag; message = at.message; stream = at.stream; place = given.1 },
    )
