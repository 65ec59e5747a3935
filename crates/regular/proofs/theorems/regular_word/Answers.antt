use Rattle.regular.specs.Makes.{regular_word}
use Rattle.regular.proofs.theorems.regular_word.Goals as goal

pub returns : goal.returns
returns g c = regular_word g.met.F.Field.laws.ring g.met.F.Field.laws.numbered
