use Rattle.theory.proofs.Sweeps.{sweep}
use Rattle.theory.proofs.rule_at_each_entry.Goals as goal

pub returns : goal.returns
returns c = sweep
