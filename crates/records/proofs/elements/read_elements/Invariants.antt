use Rattle.std.proofs.Common.{◌≡◌, map, take}
use Rattle.records.proofs.elements.read_elements.Given as goal

abbrev pub invariant-loop-i : goal.invariant-loop-i
invariant-loop-i g l = take l.i l.out ≡ map g.F.Field.ops.element (take l.i l.bytes)
