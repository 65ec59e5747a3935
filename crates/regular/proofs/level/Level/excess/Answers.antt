use Rattle.std.proofs.Common.{rules}
use Rattle.regular.proofs.Views.{excess_is}
use Rattle.regular.proofs.level.Level.excess.Goals as goal

pub returns : goal.returns
returns g c = search (rules, excess_is)
