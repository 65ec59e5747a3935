use Rattle.std.proofs.Common.{◌≡◌, ◌∙◌, length, sym, subst, zero-add}
use Rattle.sponge.specs.declared.state.Mode.TheVariants.{Absorbing, Squeezing}
use Rattle.sponge.specs.Sponges.{Absorbed, Turned, Gives}
use Rattle.sponge.proofs.state.Sponge.squeeze.Goals.{in-Absorbing, in_default}
use Rattle.sponge.proofs.state.Sponge.squeeze.Goals as goal

pub returns-clause-first : goal.returns-clause-first
unfolding Absorbed
returns-clause-first c = λ m a.
    elim c.match-self.branch [
      | in-Absorbing w ↦
          let n = length c.args.out.now in
          let given = c.draw.ensures m 0 (subst (λ s. Turned s m 0) (sym w.self-is) (w.turn.ensures m a)) in
          (given.0, subst (Turned c.draw.new.self m) (zero-add n) given.1)
      | in_default w ↦ absurd (w.in_default.not-Absorbing a.mode)
    ]

pub returns-clause-later : goal.returns-clause-later
unfolding Turned
returns-clause-later c =
    elim c.match-self.branch [
      | in-Absorbing w ↦ λ m k a. let not : Absorbing ≡ Squeezing = sym w.in-Absorbing.is ∙ a.mode in absurd cc
      | in_default w ↦ subst (λ s. Gives s (length c.args.out.now) c.draw.new.out c.draw.new.self) w.self-is c.draw.ensures
    ]
