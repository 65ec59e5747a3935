use Rattle.std.proofs.Common.{◌≡◌, ◌<◌, ◌∙◌, rules, arith}
use Rattle.std.specs.Slice.Iter.{chunks_exact_rest, chunks_exact_size}
use Rattle.std.proofs.lemmas.Iterator.{YieldsList-from_take}
use Rattle.std.proofs.lemmas.Iterator.Search.{all_from_yields_List}
use Rattle.regular.specs.Regular.{hot}
use Rattle.regular.proofs.Chunks.{chunks, chunks-hot}
use Rattle.regular.proofs.hot.all_hot.Goals as goal

pub returns : goal.returns
returns g c =
    let o = g.F.Field.ops in
    let s = c.take.result.iter in
    let size : chunks_exact_size s ≡ c.args.size = cc in
    let rest : chunks_exact_rest s ≡ c.args.x.now = cc in
    let some : 0 < chunks_exact_size s = omega arith in
    let known : 0 < c.args.size = omega arith in
    all_from_yields_List (hot o) _ _ _ c.all.ensures.ran (YieldsList-from_take c.args.blocks (chunks s some) c.take.ensures.count) (λ x b q k. search rules)
    ∙ chunks-hot o s c.args.size c.args.blocks c.args.x.now known c.requires size rest
