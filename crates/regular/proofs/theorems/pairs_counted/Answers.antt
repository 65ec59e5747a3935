use Rattle.regular.specs.Counts.{pairs-counted}
use Rattle.regular.proofs.theorems.pairs_counted.Goals as goal

pub returns : goal.returns
returns c = pairs-counted
