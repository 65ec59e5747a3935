use Rattle.std.proofs.Common.{◌∙◌, take, rules, arith}
use Rattle.std.proofs.lemmas.Iterator.{YieldsList-from_slice, YieldsList-from_zip}
use Rattle.std.proofs.lemmas.Iterator.Consumers.{fold_from_yields_List}
use Rattle.algebra.proofs.Linear.{dot_by_fold, dot_cut}
use Rattle.algebra.proofs.sums.dot.Goals as goal

pub returns : goal.returns
returns g c =
    let o = g.F.Field.ops in
    let n = c.min-shorter.result in
    let a = take n c.args.a.now in
    let b = take n c.args.b.now in
    fold_from_yields_List _ (λ s p. o.plus s (o.times p.0 p.1)) _ _ c.fold.ensures.ran
    (YieldsList-from_zip (YieldsList-from_slice a cc) (YieldsList-from_slice b cc)) (λ s p t q k. search rules)
    ∙ dot_by_fold g.met.F.Field.laws.ring _ a b c.zero.ensures
    ∙ dot_cut g.met.F.Field.laws.ring n c.args.a.now c.args.b.now (omega arith)
