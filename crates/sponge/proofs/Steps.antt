-- What bytes taken and given do to what a sponge holds. Assumes nothing.
use Rattle.std.proofs.Common.{◌≡◌, ℕ, suc, ◌+◌, ◌/◌, ◌%◌, ◌<◌, ◌≤◌, List, [], ◌++◌, length, get_or, add-zero, sym, refl, ap, ◌∙◌, ap₂, subst, inl, inr, arith}
use Rattle.std.proofs.lemmas.List.{length-append}
use Rattle.std.proofs.lemmas.List.FromFn.{fill_by_all}
use Rattle.std.proofs.lemmas.Bool.{cases_lt}
use Rattle.sponge.specs.declared.state.Sponge.{Sponge}
use Rattle.keccak.specs.Keccak.{permuted}
use Rattle.sponge.specs.Shake.{byte_at, mixed, closed, after, shake_byte, shake}
use Rattle.sponge.specs.Sponges.{held, Absorbed, Turned, Takes, Gives}
use Rattle.sponge.specs.Steps.{Advanced}
use Rattle.sponge.proofs.Blocks.{held_more, held_full}
use Rattle.sponge.proofs.Outputs.{shake_join}

-- n bytes mixed in at the place, which do not pass the end of the block: u is s with its lanes so mixed
pub taken : (s u t : Sponge) (n : ℕ) (bs : List ℕ) → s.pos + n ≤ 136 → length bs ≡ n → u.mode ≡ s.mode → u.pos ≡ s.pos
    → u.state.lanes ≡ mixed s.pos bs s.state.lanes → Advanced u n t → Takes s bs t
unfolding Absorbed
taken s u t n bs le long mode pos mix on m a =
    let sum = length-append m bs in
    let at = a.pos in
    let lanes : u.state.lanes ≡ mixed (length m % 136) bs (held m) = mix ∙ ap₂ (λ p l. mixed p bs l) a.pos a.lanes in
    elim (cases_lt (length m % 136 + length bs) 136) [
      | inl lt ↦
          let r = on.more (omega arith) in
          record { mode = on.mode ∙ mode ∙ a.mode; pos = omega (arith, r.1); lanes = r.0 ∙ lanes ∙ sym (held_more m bs lt) }
      | inr ge ↦
          let is : length m % 136 + length bs ≡ 136 = omega arith in
          let r = on.full (omega arith) in
          record { mode = on.mode ∙ mode ∙ a.mode; pos = omega (arith, r.1); lanes = r.0 ∙ ap permuted lanes ∙ sym (held_full m bs is) }
    ]

-- the n bytes from the place on, which do not pass the end of the block: u is s as it was when they were read
pub given : (s u t : Sponge) (n : ℕ) (bs : List ℕ) → s.pos + n ≤ 136 → length bs ≡ n → u.mode ≡ s.mode → u.pos ≡ s.pos → u.state.lanes ≡ s.state.lanes
    → ((j : ℕ) → j < n → get_or bs j 0 ≡ byte_at s.state.lanes (s.pos + j)) → Advanced u n t → Gives s n bs t
unfolding after shake_byte shake Turned
given s u t n bs le long mode pos same are on m k a =
    let at = a.pos in (
      fill_by_all (λ j. shake_byte m (k + j)) bs n 0 long
          (λ j lt.
          let block : k / 136 ≡ (k + j) / 136 = omega arith in
          let place : s.pos + j ≡ (k + j) % 136 = omega arith in
          are j lt ∙ ap₂ byte_at (a.lanes ∙ ap (λ i. after i (closed m)) block) place),
      elim (cases_lt (k % 136 + n) 136) [
        | inl lt ↦
            let r = on.more (omega arith) in
            let block : k / 136 ≡ (k + n) / 136 = omega arith in
            record { mode = on.mode ∙ mode ∙ a.mode; pos = omega (arith, r.1); lanes = r.0 ∙ same ∙ a.lanes ∙ ap (λ i. after i (closed m)) block }
        | inr ge ↦
            let r = on.full (omega arith) in
            let next : suc (k / 136) ≡ (k + n) / 136 = omega arith in
            record { mode = on.mode ∙ mode ∙ a.mode; pos = omega (arith, r.1); lanes = r.0 ∙ ap permuted (same ∙ a.lanes) ∙ ap (λ i. after i (closed m)) next }
      ],
    )

-- giving nothing, and giving bytes and then more of them
pub gives_none : (s : Sponge) → Gives s 0 [] s
unfolding shake
gives_none s m k a = (refl, subst (Turned s m) (sym (add-zero k)) a)

pub gives_join : (s t u : Sponge) (n o : ℕ) (xs ys : List ℕ) → Gives s n xs t → Gives t o ys u → Gives s (n + o) (xs ++ ys) u
gives_join s t u n o xs ys first then m k a =
    let f = first m k a in
    let g = then m (k + n) f.1 in
    let sum : k + n + o ≡ k + (n + o) = omega arith in
    (ap₂ (λ p q. p ++ q) f.0 g.0 ∙ shake_join m k n o, subst (Turned u m) sum g.1)
