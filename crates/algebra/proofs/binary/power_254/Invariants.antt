use Rattle.std.proofs.Common.{◌≡◌, ◌-◌}
use Rattle.algebra.specs.Gf256.{squares}
use Rattle.algebra.proofs.binary.power_254.Given as goal

abbrev pub invariant-loop : goal.invariant-loop
invariant-loop l = squares 7 l.a 1 ≡ squares (7 - l.counter) l.square l.power
