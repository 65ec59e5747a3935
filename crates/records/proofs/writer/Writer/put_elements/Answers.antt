use Rattle.std.proofs.Common.{sym, ap, ◌∙◌, ◌∷◌, [], ◌++◌, map, take, arith, ℕ}
use Rattle.std.proofs.lemmas.List.{map_more}
use Rattle.records.proofs.Writers.{wrote_more, wrote_same}
use Rattle.records.proofs.writer.Writer.put_elements.Goals as goal

pub loop-element-preserved : goal.loop-element-preserved
loop-element-preserved g c =
    let f = g.F.Field.ops.number in
    let xs = c.args.elements.now in
    let i = c.loop-element.element-index in
    let byte = c.number.ensures ∙ ap f c.element-item.is in
    wrote_same (ap (λ (n : ℕ). map f (take i xs) ++ (n ∷ [])) byte ∙ sym (map_more f xs i c.element-item.result c.loop-element-test.true))
    (wrote_more c.loop-element.invariant c.put_bytes.ensures (omega (arith, c.requires)))
