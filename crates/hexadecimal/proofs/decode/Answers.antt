use Rattle.std.proofs.Common.{◌≡◌, ◌+◌, ◌*◌, ◌/◌, length, sym, ◌∙◌, arith}
use Rattle.std.proofs.lemmas.Bool.Decides.{nat_tests}
use Rattle.hexadecimal.specs.Digits.{decoded}
use Rattle.hexadecimal.proofs.Texts.{before_none, decoded_turn, decoded_odd, decoded_by_pairs}
use Rattle.hexadecimal.proofs.decode.Goals as goal

pub returns-then-not-is_empty : goal.returns-then-not-is_empty
returns-then-not-is_empty c =
    let odd : length c.args.text.now ≡ 2 * (length c.args.text.now / 2) + 1 = grind (arith, nat_tests) in
    λ _. decoded_odd c.args.text.now (length c.args.text.now / 2) odd

pub loop-high-init : goal.loop-high-init
loop-high-init c =
    let even : length c.args.text.now ≡ 2 * (length c.args.text.now / 2) = grind (arith, nat_tests) in
    let read = decoded_by_pairs c.args.text.now _ even in
    let none = before_none (decoded c.args.text.now) in
    cc

pub loop-high-preserved : goal.loop-high-preserved
loop-high-preserved c =
    c.loop-high.invariant
    ∙ decoded_turn c.as_chunks.result.0.now c.loop-high.high-index _ _ _ c.loop-high-test.true (sym c.byte.ensures ∙ c.in_ok-ok_or.ensures.ok_part) c.in_ok-push.ensures.items
