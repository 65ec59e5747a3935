use Rattle.std.proofs.Common.{rules}
use Rattle.regular.proofs.Walks.{pairs_more}
use Rattle.regular.proofs.walk.fill_pairs.Goals as goal

pub loop-i-preserved : goal.loop-i-preserved
loop-i-preserved g c = search (rules, pairs_more)
