use Rattle.std.proofs.Common.{◌≡◌, drop, vec_items}
use Rattle.hexadecimal.specs.Digits.{decoded}
use Rattle.hexadecimal.proofs.Texts.{before, decoded_pairs}
use Rattle.hexadecimal.proofs.decode.Given as goal

abbrev pub invariant-loop-high : goal.invariant-loop-high
invariant-loop-high l = decoded l.text ≡ before (vec_items l.bytes) (decoded_pairs (drop l.high-index l.pairs))
