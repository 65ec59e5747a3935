use Rattle.std.proofs.Common.{get_or, ap, ◌∙◌, arith}
use lib.Bits.{bit_xor}
use Rattle.sponge.specs.Shake.{byte_at}
use Rattle.sponge.proofs.Bytes.{mixed_from}
use Rattle.sponge.proofs.theorems.xor_stands.Goals as goal

pub returns : goal.returns
returns c = λ bs s k small le long.
    mixed_from bs 0 k s small (omega arith) long (omega arith) ∙ ap (λ i. bit_xor (byte_at s k) (get_or bs i 0)) (omega arith)
