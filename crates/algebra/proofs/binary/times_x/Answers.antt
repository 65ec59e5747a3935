use Rattle.std.proofs.Common.{ℕ, ◌*◌, ◌/◌, ◌%◌, ap, ◌∙◌, mod-eq_of_lt, arith}
use lib.Bits.{bit_xor, and_mask}
use Rattle.algebra.specs.Gf256.{double}
use Rattle.algebra.proofs.binary.times_x.Goals as goal

pub returns : goal.returns
unfolding double
returns c =
    let b = c.args.b in
    ap (λ (n : ℕ). bit_xor n (27 * (b / 128))) (ap (λ (n : ℕ). n * 2 % 256) (and_mask b 7) ∙ mod-eq_of_lt (omega arith))
