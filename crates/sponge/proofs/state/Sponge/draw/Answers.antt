use Rattle.std.proofs.Common.{rules, ◌≡◌, ℕ, ◌+◌, ◌-◌, ◌≤◌, List, [], ◌∷◌, ◌++◌, length, take, drop, sym, ap, ◌∙◌, subst, arith, length-append, length-set}
use borrow.Rule.Slice.PartMut.{put_mid, post_of}
use Rattle.std.proofs.Math.Seq.{take-append-add}
use Rattle.std.proofs.lemmas.List.{length-take-le, take-append-le, take_at, take_more_set}
use Rattle.sponge.specs.declared.state.Sponge.{Sponge}
use Rattle.sponge.specs.Sponges.{Gives}
use Rattle.sponge.proofs.Steps.{gives_none, gives_join}
use Rattle.sponge.proofs.state.Sponge.draw.Goals as goal

-- n bytes more are given, which are written from place i on
further : (s t u : Sponge) (i k n : ℕ) (out ys bs : List ℕ) → n ≤ length ys → take n ys ≡ bs → Gives t n bs u → (i ≤ length out) × Gives s i (take i out) t
    → (i + n ≤ length (put_mid i k out ys)) × Gives s (i + n) (take (i + n) (put_mid i k out ys)) u
further s t u i k n out ys bs enough are more so =
    let front : length (take i out) ≡ i = length-take-le i out so.0 in
    let back = ys ++ post_of i k out in
    let written : take (i + n) (put_mid i k out ys) ≡ take i out ++ bs =
    ap (λ j. take (j + n) (put_mid i k out ys)) (sym front)
    ∙ take-append-add (take i out) back n
    ∙ ap (λ l. take i out ++ l) (take-append-le n ys (post_of i k out) enough ∙ are) in (
      omega (arith, length-append (take i out) back, length-append ys (post_of i k out)),
      subst (λ l. Gives s (i + n) l u) (sym written) (gives_join s t u i n (take i out) bs so.1 more),
    )

pub loop-given-init : goal.loop-given-init
loop-given-init c = (omega arith, gives_none c.args.self.now)

pub loop-given-preserved-then-self-eq0 : goal.loop-given-preserved-then-self-eq0
loop-given-preserved-then-self-eq0 c =
    let lane = c.get_lane.result in
    let long : length c.get_lane.result ≡ 8 = search rules in
    further c.args.self.now c.loop-given.self c.get_lane.new.self c.loop-given.given _ 8 c.loop-given.out _ lane
    (omega (arith, length-append lane (drop 8 (take (length c.loop-given.out - c.loop-given.given) (drop c.loop-given.given c.loop-given.out)))))
    (take_at lane _ 8 long) c.get_lane.ensures c.loop-given.invariant

pub loop-given-preserved : goal.loop-given-preserved
loop-given-preserved c =
    let rest = c.in_default.rest in
    let byte = c.get_byte.result in
    further c.args.self.now c.loop-given.self c.get_byte.new.self c.loop-given.given _ 1 c.loop-given.out _ (byte ∷ [])
    (omega (arith, length-set rest 0 byte)) (take_more_set rest 0 byte (omega arith)) c.get_byte.ensures c.loop-given.invariant
