use Rattle.std.proofs.Common.{take}
use Rattle.std.specs.List.{flat_map}
use Rattle.hashes.specs.Hashes.{Hashing}
use Rattle.hashes.proofs.strings.fed.Given as goal

abbrev pub invariant-loop-part : goal.invariant-loop-part
invariant-loop-part l = Hashing l.hasher l.tag (flat_map (λ x. x.now) (take l.part-index l.parts))
