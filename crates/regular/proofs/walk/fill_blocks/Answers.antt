use Rattle.std.proofs.Common.{rules}
use Rattle.regular.proofs.Walks.{blocks_more}
use Rattle.regular.proofs.walk.fill_blocks.Goals as goal

pub loop-b-preserved : goal.loop-b-preserved
loop-b-preserved g c = search (rules, blocks_more)
