use Rattle.std.proofs.Common.{ℕ, sym, ap, ◌∙◌, arith}
use Rattle.expander.specs.Streams.{window}
use Rattle.expander.proofs.Windows.{window_seed}
use Rattle.expander.proofs.seeds.SeedStreamStream.next_block.Goals as goal

pub returns : goal.returns
returns g c f k at =
    let e = g.E.Expander in
    let self = c.args.self.now in
    let salt = e.salt_of self.expander in
    let seed = e.seed_of self.expander in
    let whole = g.met.E.Expander.whole salt seed self.next (g.met.E.Expander.salted self.expander) (g.met.E.Expander.seeded self.expander) in
    let begins = at.begins in
    let number = at.number in (
      c.block-block.ensures ∙ window_seed e.block salt seed k self.next whole begins number ∙ sym (ap (λ (h : ℕ → ℕ). window h k 16) at.stream),
      record { stream = at.stream; begins = omega arith; number = omega arith },
    )
