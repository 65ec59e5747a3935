use Rattle.std.proofs.Common.{◌<◌, get_or, arith, rules}
use Rattle.std.proofs.lemmas.Bool.Decides.{nat_tests}
use Rattle.std.proofs.lemmas.Grind.{common_steps}
use Rattle.hexadecimal.proofs.Texts.{encoded_more}
use Rattle.hexadecimal.proofs.encode.Goals as goal

pub loop-b-preserved : goal.loop-b-preserved
loop-b-preserved c =
    let small : get_or c.args.bytes.now c.loop-b.b-index 0 < 256 = search rules in
    let high : c.digit.result < 128 = grind (arith, nat_tests) in
    let low : c.digit-in-loop-b.result < 128 = grind (arith, nat_tests) in
    let first = c.push.ensures.ascii high in
    let second = c.push-in-loop-b.ensures.ascii low in
    let more = encoded_more c.args.bytes.now c.loop-b.b-index c.loop-b-test.true in
    grind (arith, common_steps)
