use Rattle.std.proofs.Common.{ℕ, ◌*◌, ◌^◌, sym, ap, ◌∙◌, pow-suc, add-one}
use Rattle.algebra.specs.Prime.{at}
use Rattle.algebra.specs.Primes.{same, mod-mul}
use Rattle.algebra.specs.declared.elements.Mod251.{Mod251}
use Rattle.algebra.proofs.prime.Mod251Field.invert.Goals as goal

pub loop-preserved : goal.loop-preserved
loop-preserved c =
    let a = c.args.self.value in
    let i = c.loop.counter in
    c.multiply-power.ensures ∙ ap (λ (x : Mod251). at (x.value * a)) c.loop.invariant ∙ same _ _ (mod-mul (a ^ i) a 251) ∙ ap at (sym (ap (λ (k : ℕ). a ^ k) (add-one i) ∙ pow-suc a i))
