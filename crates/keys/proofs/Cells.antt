-- How large a matrix can be. Assumes nothing.
use Rattle.std.proofs.Common.{ℕ, ◌-◌, ◌*◌, ◌<◌, ◌≤◌, leb, mul-le-mul_left, arith, leb→le}
use Rattle.theory.proofs.Sweeps.{upto_at}

-- k (250 - k) is largest at 125, by a test of each k
largest : (k : ℕ) → k < 251 → k * (250 - k) ≤ 15625
largest k h = leb→le (k * (250 - k)) 15625 (upto_at 251 (λ k. leb (k * (250 - k)) 15625) tt k h)

pub few_cells : (k m : ℕ) → k ≤ m → m ≤ 250 → k * (m - k) ≤ 15625
few_cells k m km mm =
    let a : k * (m - k) ≤ k * (250 - k) = mul-le-mul_left k (omega arith) in
    let b = largest k (omega arith) in
    omega arith
