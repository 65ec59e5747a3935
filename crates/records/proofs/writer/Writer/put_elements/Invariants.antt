use Rattle.std.proofs.Common.{map, take}
use Rattle.records.specs.Writers.{Wrote}
use Rattle.records.proofs.writer.Writer.put_elements.Given as goal

abbrev pub invariant-loop-element : goal.invariant-loop-element
invariant-loop-element g l = Wrote l.initial.self (map g.F.Field.ops.number (take l.element-index l.elements)) l.self
