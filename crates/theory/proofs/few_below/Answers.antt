use Rattle.theory.proofs.Pigeons.{pigeonhole}
use Rattle.theory.proofs.few_below.Goals as goal

pub returns : goal.returns
returns c = pigeonhole
