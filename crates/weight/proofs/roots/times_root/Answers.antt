use Rattle.std.proofs.Common.{rules}
use Rattle.weight.proofs.Growing.{step_all}
use Rattle.weight.proofs.roots.times_root.Goals as goal

pub returns : goal.returns
returns g c = search (rules, step_all)
