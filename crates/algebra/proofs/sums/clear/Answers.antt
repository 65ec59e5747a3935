use Rattle.std.proofs.Common.{arith}
use Rattle.algebra.proofs.Scaled.{cleared_more}
use Rattle.algebra.proofs.sums.clear.Goals as goal

pub loop-x-preserved : goal.loop-x-preserved
loop-x-preserved g c =
    cleared_more g.F.Field.ops.zero c.args.elements.now c.loop-x.elements c.loop-x.x-index c.zero.result (omega arith) c.zero.ensures c.loop-x.invariant
