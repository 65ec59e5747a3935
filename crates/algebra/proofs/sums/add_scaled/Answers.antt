use Rattle.std.proofs.Common.{arith}
use Rattle.algebra.proofs.Scaled.{scaled_more}
use Rattle.algebra.proofs.sums.add_scaled.Goals as goal

pub loop-i-preserved : goal.loop-i-preserved
loop-i-preserved g c =
    scaled_more g.F.Field.ops c.args.factor c.args.elements.now c.args.sums.now c.loop-i.sums c.loop-i.i
    c.index-elements-i.result c.index-sums-i.result c.multiply.result c.add.result (omega arith) c.requires c.loop-i.invariant
    c.index-elements-i.is c.multiply.ensures c.add.ensures
