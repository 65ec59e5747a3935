use Rattle.lock.proofs.Words.{words_satisfy}
use Rattle.lock.proofs.theorems.words_satisfy.Goals as goal

pub returns : goal.returns
returns g c = words_satisfy g.met.F.Field.laws.ring
