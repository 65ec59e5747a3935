-- How many equations there are. Assumes nothing.
use Rattle.std.specs.Prelude.{◌≡◌, ℕ, zero, suc, ◌+◌, ◌-◌, ◌*◌, ◌/◌, ◌<◌, ◌≤◌, length, refl}
use Rattle.std.proofs.Common.{sym, ap, ap₂, ◌∙◌, zero-mul, suc-mul, mul-suc, mul-le-mul_right, arith, length-append}
use Rattle.regular.specs.Regular.{pairs_with, pairs, block, blocks, triangle}
use Rattle.regular.specs.Theorems.{PairsCounted}

pub length-pairs_with : (i j n : ℕ) → length (pairs_with i j n) ≡ n
length-pairs_with i j zero = refl
length-pairs_with i j (suc n) = ap suc (length-pairs_with i (suc j) n)

pub length_pairs : (i n : ℕ) → length (pairs i n) ≡ triangle n
length_pairs i zero = refl
length_pairs i (suc n) = length-append (pairs_with i (suc i) n) (pairs (suc i) n) ∙ ap₂ ◌+◌ (length-pairs_with i (suc i) n) (length_pairs (suc i) n)

pub length-blocks : (n i c : ℕ) → length (blocks n i c) ≡ c * (1 + triangle n)
length-blocks n i zero = sym (zero-mul (1 + triangle n))
length-blocks n i (suc c) =
    let a = length-append (block i n) (blocks n (i + n) c) in
    let b = length_pairs i n in
    let d = length-blocks n (i + n) c in
    let e = suc-mul c (1 + triangle n) in
    omega arith

square : (n : ℕ) → n * (n - 1) + n ≡ n * n
square zero = refl
square (suc n) = let e : suc n - 1 ≡ n = omega arith in ap (λ (m : ℕ). suc n * m + suc n) e ∙ sym (mul-suc (suc n) n)

triangle-double : (n : ℕ) → triangle n + triangle n ≡ n * (n - 1)
triangle-double zero = refl
triangle-double (suc n) =
    let e : suc n - 1 ≡ n = omega arith in
    let a = triangle-double n in
    let b = square n in
    let c = suc-mul n n in
    let d : suc n * (suc n - 1) ≡ suc n * n = ap (λ (m : ℕ). suc n * m) e in
    omega arith

pub triangle_half : (n : ℕ) → n * (n - 1) / 2 ≡ triangle n
triangle_half n = let e = triangle-double n in omega arith

pub product_few : (n : ℕ) → n ≤ 250 → n * (n - 1) ≤ 62250
product_few n h =
    let a : n * (n - 1) ≤ 250 * (n - 1) = mul-le-mul_right (n - 1) h in
    omega arith

pub triangle_left : (n t : ℕ) → t < n → triangle (n - t) ≡ (n - t - 1) + triangle (n - (t + 1))
triangle_left n t h =
    let e : n - t ≡ suc (n - (t + 1)) = omega arith in
    let f : n - (t + 1) ≡ n - t - 1 = omega arith in
    ap triangle e ∙ ap (λ (k : ℕ). k + triangle (n - (t + 1))) f

pub times_left : (c b n : ℕ) → b < c → (c - b) * n ≡ (c - (b + 1)) * n + n
times_left c b n h =
    let e : c - b ≡ suc (c - (b + 1)) = omega arith in
    ap (λ (k : ℕ). k * n) e ∙ suc-mul (c - (b + 1)) n

pub pairs-counted : PairsCounted
pairs-counted = record {
  each = λ i n. length_pairs i n ∙ sym (triangle_half n);
  all = λ i n count. length-blocks n i count ∙ ap (λ (k : ℕ). count * (1 + k)) (sym (triangle_half n));
}
