use Rattle.std.proofs.Common.{◌∙◌, rules}
use Rattle.std.proofs.lemmas.Iterator.{YieldsList-from_slice}
use Rattle.std.proofs.lemmas.Iterator.Consumers.{fold_from_yields_List}
use Rattle.algebra.proofs.Linear.{total_by_fold}
use Rattle.algebra.proofs.sums.total.Goals as goal

pub returns : goal.returns
returns g c =
    fold_from_yields_List _ g.F.Field.ops.plus _ _ c.fold.ensures.ran (YieldsList-from_slice c.args.elements.now cc) (λ s x t q k. search rules)
    ∙ total_by_fold g.met.F.Field.laws.ring _ _ c.zero.ensures
