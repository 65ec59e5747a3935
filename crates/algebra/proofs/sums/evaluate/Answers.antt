use Rattle.std.proofs.Common.{◌∙◌, rules}
use Rattle.std.proofs.lemmas.Iterator.Adapters.{YieldsList-from_rev_slice}
use Rattle.std.proofs.lemmas.Iterator.Consumers.{fold_from_yields_List}
use Rattle.algebra.proofs.Linear.{eval_by_fold}
use Rattle.algebra.proofs.sums.evaluate.Goals as goal

pub returns : goal.returns
returns g c =
    let o = g.F.Field.ops in
    let at = c.args.at in
    fold_from_yields_List _ (λ v x. o.plus x (o.times at v)) _ _ c.fold.ensures.ran
    (YieldsList-from_rev_slice c.args.coefficients.now cc) (λ v x w q k. search rules)
    ∙ eval_by_fold o at _ c.args.coefficients.now c.zero.ensures
