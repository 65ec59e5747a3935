use Rattle.std.proofs.Common.{◌≡◌, ℕ, suc, ◌+◌, ◌-◌, ◌*◌, ◌/◌, ◌%◌, refl, arith}
use lib.Bits.{bit_xor, xor_assoc, xor_zero_r}
use Rattle.algebra.specs.Gf256.{double, product_of, times}
use Rattle.algebra.specs.Products.{double_lt}
use Rattle.algebra.proofs.binary.product.Goals as goal

one_more : (k a b : ℕ) → product_of (suc k) a b ≡ bit_xor ((a % 2) * b) (product_of k (a / 2) (double b))
unfolding product_of
one_more k a b = refl

pub loop-preserved : goal.loop-preserved
loop-preserved c =
    let a = c.loop.bits in
    let b = c.loop.shifted in
    let k = 8 - (c.loop.counter + 1) in
    let left : 8 - c.loop.counter ≡ suc k = omega arith in
    let more = one_more k a b in
    let regrouped = xor_assoc c.loop.sum ((a % 2) * b) (product_of k (a / 2) (double b)) in
    (omega (arith, double_lt b c.loop.invariant.0), cc)

none_left : (a b : ℕ) → product_of 0 a b ≡ 0
unfolding product_of
none_left a b = refl

pub returns : goal.returns
unfolding times
returns c =
    let left : 8 - c.loop.counter ≡ 0 = omega arith in
    let none = none_left c.loop.bits c.loop.shifted in
    let plain = xor_zero_r c.loop.sum in
    cc
