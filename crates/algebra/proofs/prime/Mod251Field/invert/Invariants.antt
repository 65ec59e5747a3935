use Rattle.std.proofs.Common.{◌≡◌, ◌^◌}
use Rattle.algebra.specs.Prime.{at}
use Rattle.algebra.proofs.prime.Mod251Field.invert.Given as goal

abbrev pub invariant-loop : goal.invariant-loop
invariant-loop l = l.power ≡ at (l.self.value ^ l.counter)
