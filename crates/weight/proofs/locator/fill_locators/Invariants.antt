use Rattle.std.proofs.Common.{◌≡◌, ℕ, drop}
use Rattle.lock.specs.Instances.{listed}
use Rattle.weight.proofs.Horner.{valued}
use Rattle.weight.proofs.locator.fill_locators.Given as goal

-- whatever the element is that all places began with
abbrev pub invariant-loop-t : goal.invariant-loop-t
invariant-loop-t g l = (s : g.row.F.Denot) (n : ℕ) → l.initial.out ≡ listed (λ _. s) 0 n → l.out ≡ valued g.F.Field.ops (drop l.t l.coefficients) s n
