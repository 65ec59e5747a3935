use Rattle.std.proofs.Common.{◌≡◌, ℕ, ◌+◌, List, [], ◌∷◌, ◌++◌, take, set, sym, ap, ◌∙◌, subst, arith}
use Rattle.std.proofs.lemmas.List.{take_more_set}
use Rattle.expander.specs.Sampling.{Sampling}
use Rattle.expander.specs.Streams.{drawn, after}
use Rattle.expander.proofs.Draws.{drawn_join, after_join}
use Rattle.expander.proofs.sampler.Sampler.fill.Goals as goal

pub loop-i-preserved : goal.loop-i-preserved
loop-i-preserved g c f k is =
    let sampled = g.F.Field.sampled in
    let i = c.loop-i.i in
    let before = c.loop-i.invariant f k is in
    let one = c.next.ensures f (after sampled f k i) before.1 in
    let placed : (n : ℕ) → n ≡ i → take (i + 1) (set c.loop-i.out n c.next.result) ≡ take i c.loop-i.out ++ (c.next.result ∷ []) =
    λ n e. ap (λ (m : ℕ). take (i + 1) (set c.loop-i.out m c.next.result)) e ∙ take_more_set c.loop-i.out i c.next.result (omega arith) in (
      placed _ (omega arith)
          ∙ ap (λ (xs : List g.row.F.Denot). xs ++ (c.next.result ∷ [])) before.0
          ∙ ap (λ (x : g.row.F.Denot). drawn sampled f k i ++ (x ∷ [])) one.0
          ∙ sym (drawn_join sampled f k i 1),
      subst (Sampling g.S.Stream.gives c.next.new.self f) (sym (after_join sampled f k i 1)) one.1,
    )
