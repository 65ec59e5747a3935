use Rattle.std.proofs.Common.{◌≡◌, ℕ, suc, ◌+◌, ◌-◌, refl, arith}
use Rattle.algebra.specs.Gf256.{times, squares, inverse}
use Rattle.algebra.proofs.binary.power_254.Goals as goal

one_more : (k a r : ℕ) → squares (suc k) a r ≡ squares k (times a a) (times r (times a a))
unfolding squares
one_more k a r = refl

pub loop-preserved : goal.loop-preserved
loop-preserved c =
    let left : 7 - c.loop.counter ≡ suc (7 - (c.loop.counter + 1)) = omega arith in
    let more = one_more (7 - (c.loop.counter + 1)) c.loop.square c.loop.power in
    cc

pub returns : goal.returns
unfolding inverse squares
returns c =
    let left : 7 - c.loop.counter ≡ 0 = omega arith in
    cc
