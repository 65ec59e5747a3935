use Rattle.std.proofs.Common.{nat_lt, sym, ◌∙◌, rules, tests}
use Rattle.std.proofs.lemmas.Iterator.{YieldsList-from_slice}
use Rattle.std.proofs.lemmas.Iterator.Search.{all_from_yields_List}
use Rattle.records.proofs.Bounds.{below_all}
use Rattle.records.proofs.elements.all_elements.Goals as goal

pub returns : goal.returns
returns g c =
    let q = g.F.Field.ops.size in
    let bs = c.args.bytes.now in
    all_from_yields_List (λ b. nat_lt b q) _ _ _ c.all.ensures.ran (YieldsList-from_slice bs cc) (λ x b f k. search (rules, tests)) ∙ sym (below_all q bs)
