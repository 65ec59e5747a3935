use Rattle.std.proofs.Common.{arith}
use Rattle.regular.specs.Counts.{triangle_half}
use Rattle.regular.proofs.walk.per_block.Goals as goal

pub returns-clause-value : goal.returns-clause-value
returns-clause-value c = omega (arith, triangle_half c.args.size)
