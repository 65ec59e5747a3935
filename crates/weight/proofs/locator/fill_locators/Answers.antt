use Rattle.std.proofs.Common.{◌≡◌, ℕ, ◌+◌, ◌-◌, length, drop, ap, ◌∙◌, arith}
use Rattle.weight.proofs.Horner.{valued, value_none, value_more}
use Rattle.weight.proofs.locator.fill_locators.Goals as goal

pub loop-t-init : goal.loop-t-init
loop-t-init g c s n e = value_none g.met.F.Field.laws.ring c.args.coefficients.now s n _ e

pub loop-t-preserved : goal.loop-t-preserved
loop-t-preserved g c s n e =
    let o = g.F.Field.ops in
    let cs = c.args.coefficients.now in
    let t = c.loop-t.t in
    let up : t ≡ t - 1 + 1 = omega arith in
    value_more o cs s n (t - 1) c.index-coefficients-t.result c.loop-t.out c.horner_step.new.out (omega arith) c.index-coefficients-t.is
    (c.loop-t.invariant s n e ∙ ap (λ (j : ℕ). valued o (drop j cs) s n) up) c.horner_step.ensures

pub returns : goal.returns
returns g c =
    let z : c.loop-t.t ≡ 0 = omega arith in
    let n = length c.args.out.now in
    c.loop-t.invariant c.args.s n c.set_all.ensures ∙ ap (λ (j : ℕ). valued g.F.Field.ops (drop j c.args.coefficients.now) c.args.s n) z
