use Rattle.std.proofs.Common.{rules}
use Rattle.lock.proofs.Ranges.{ranges}
use Rattle.lock.proofs.Products.{word-parts}
use Rattle.lock.proofs.word.fill_word.Goals as goal

pub returns : goal.returns
returns g c =
    let range = ranges c.args.problem.now.shape c.requires.ranged in search (rules, word-parts g.F.Field.ops g.met.F.Field.laws.ring)
