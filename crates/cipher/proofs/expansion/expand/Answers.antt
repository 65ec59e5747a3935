use Rattle.std.proofs.Common.{◌≡◌, refl, sym, ◌∙◌, arith, rules}
use Rattle.cipher.specs.Expansion.{schedule_of}
use Rattle.cipher.proofs.Schedules.{joined, first_key, length_schedule}
use Rattle.cipher.proofs.expansion.expand.Goals as goal

pub loop-r-init : goal.loop-r-init
loop-r-init c = (refl, λ k low. let none : k ≡ 0 = omega arith in rw none (c.columns-keys.ensures ∙ sym (first_key c.args.key.now)))

pub returns : goal.returns
returns c =
    let w = schedule_of c.args.key.now in
    let all = c.as_flattened.ensures.value ∙ joined w c.loop-r.keys (length_schedule c.args.key.now) c.loop-r.invariant.0 (λ r lt. c.loop-r.invariant.1 r (omega arith)) in
    search rules
