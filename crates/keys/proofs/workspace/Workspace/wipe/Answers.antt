use Rattle.std.proofs.Common.{◌≡◌, ℕ, length, replicate, ap, ◌∙◌}
use Rattle.std.proofs.lemmas.List.{with_items_is}
use Rattle.keys.proofs.workspace.Workspace.wipe.Goals as goal

pub returns : goal.returns
returns g c =
    let z = g.F.Field.ops.zero in
    let w = c.args.self.now in
    let long : length c.clear.new.elements ≡ w.word.len = c.clear.auto.elements ∙ c.as_mut_slice.ensures.len in
    let many : length c.clear-2.new.elements ≡ w.unknowns.len = c.clear-2.auto.elements ∙ c.as_mut_slice-2.ensures.len in
    record {
      word = with_items_is w.word c.clear.new.elements long ∙ c.clear.ensures ∙ ap (λ (n : ℕ). replicate n z) (c.as_mut_slice.ensures.len ∙ w.places);
      unknowns = with_items_is w.unknowns c.clear-2.new.elements many ∙ c.clear-2.ensures ∙ ap (λ (n : ℕ). replicate n z) (c.as_mut_slice-2.ensures.len ∙ w.many);
    }
