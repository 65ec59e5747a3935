-- Eight bytes at a time: a lane's bytes, mixed in one by one, are the lane xored in. Assumes nothing.
use Rattle.std.proofs.Common.{◌≡◌, ℕ, suc, ◌+◌, ◌*◌, ◌/◌, ◌%◌, ◌^◌, ◌<◌, ◌≤◌, List, [], ◌∷◌, map, length, get_or, set, w64, sym, refl, ap, ◌∙◌, ap₂, zero-mul, arith}
use lib.Bits.{bit_xor, xor_zero_r, xor_assoc, xor_shifted}
use Rattle.std.specs.Int.{from_le_bytes, to_le_bytes}
use Rattle.std.specs.List.{range_with_len}
use Rattle.std.proofs.lemmas.Nat.{shl_whole, shl_below, pow-add, xor_comm}
use Rattle.std.proofs.lemmas.List.{length-set, get_or-set_same, set-set, set-get_or}
use Rattle.std.proofs.lemmas.List.FromFn.{fill_by_all, get_or-map-range_with_len}
use Rattle.sponge.specs.Shake.{byte_at, with_byte, mixed}

-- the number whose bytes these are, the lowest first
abbrev value : List ℕ → ℕ
value [] = 0
value (b ∷ bs) = b + 256 * value bs

-- a byte more at the low end of what is shifted to 8 * j
lower : (b v j : ℕ) → b < 256 → j < 8 → bit_xor (b * 2 ^ (8 * j) % 2 ^ 64) (v * 2 ^ (8 * (j + 1))) ≡ (b + 256 * v) * 2 ^ (8 * j)
lower b v j h lt =
    let up : 8 * (j + 1) ≡ 8 + 8 * j = omega arith in
    ap₂ (λ x k. bit_xor x (v * 2 ^ k)) (shl_whole b 8 (8 * j) 64 h (omega arith)) up
    ∙ xor_comm (b * 2 ^ (8 * j)) (v * 2 ^ (8 + 8 * j))
    ∙ xor_shifted v (8 + 8 * j) (b * 2 ^ (8 * j)) (shl_below b 8 (8 * j) h)
    ∙ ap (λ x. v * x + b * 2 ^ (8 * j)) (pow-add 2 8 (8 * j))
    ∙ grind arith

pub mixed_lane : (bs : List ℕ) (q j : ℕ) (s : List ℕ) → ((i : ℕ) → get_or bs i 0 < 256) → j + length bs ≤ 8 → q < length s
    → mixed (8 * q + j) bs s ≡ set s q (bit_xor (get_or s q 0) (value bs * 2 ^ (8 * j)))
unfolding mixed with_byte
mixed_lane [] q j s small le lt =
    sym (ap (λ x. set s q (bit_xor (get_or s q 0) x)) (zero-mul (2 ^ (8 * j))) ∙ ap (set s q) (xor_zero_r (get_or s q 0)) ∙ set-get_or s q 0)
mixed_lane (b ∷ bs) q j s small le lt =
    let x = get_or s q 0 in
    let y = b * 2 ^ (8 * j) % 2 ^ 64 in
    let z = value bs * 2 ^ (8 * (j + 1)) in
    let place : (8 * q + j) / 8 ≡ q = omega arith in
    let low : (8 * q + j) % 8 ≡ j = omega arith in
    let next : 8 * q + j + 1 ≡ 8 * q + (j + 1) = omega arith in
    let long : q < length (set s q (bit_xor x y)) = simp length-set lt in
    ap₂ (λ p l. mixed p bs (set s l (bit_xor (get_or s l 0) (b * 2 ^ (8 * ((8 * q + j) % 8)) % 2 ^ 64)))) next place
    ∙ ap (λ i. mixed (8 * q + (j + 1)) bs (set s q (bit_xor x (b * 2 ^ (8 * i) % 2 ^ 64)))) low
    ∙ mixed_lane bs q (j + 1) (set s q (bit_xor x y)) (λ i. small (suc i)) (omega arith) long
    ∙ set-set s q (bit_xor x y) (bit_xor (get_or (set s q (bit_xor x y)) q 0) z)
    ∙ ap (λ v. set s q (bit_xor v z)) (get_or-set_same s q (bit_xor x y) 0 lt)
    ∙ ap (set s q) (xor_assoc x y z ∙ ap (bit_xor x) (lower b (value bs) j (small 0) (omega arith)))

-- a list of eight is its members
pub eight : (bs : List ℕ) → length bs ≡ 8 → bs ≡ map (λ j. get_or bs j 0) (range_with_len 0 8)
eight bs long = fill_by_all (λ j. get_or bs j 0) bs 8 0 long (λ k lt. refl)

value_eight : (bs : List ℕ) → length bs ≡ 8 → value bs ≡ from_le_bytes w64 bs
value_eight bs long = ap value (eight bs long) ∙ omega arith

-- eight bytes mixed in at the beginning of lane q
pub mixed_eight : (bs s : List ℕ) (q : ℕ) → ((i : ℕ) → get_or bs i 0 < 256) → length bs ≡ 8 → q < length s
    → set s q (bit_xor (get_or s q 0) (from_le_bytes w64 bs)) ≡ mixed (8 * q) bs s
mixed_eight bs s q small long lt =
    let e : value bs * 2 ^ (8 * 0) ≡ from_le_bytes w64 bs = omega (arith, value_eight bs long) in
    let at : 8 * q + 0 ≡ 8 * q = omega arith in
    sym (ap (λ p. mixed p bs s) (sym at) ∙ mixed_lane bs q 0 s small (omega arith) lt ∙ ap (λ v. set s q (bit_xor (get_or s q 0) v)) e)

-- byte j of lane q
pub lane_byte : (s : List ℕ) (q j : ℕ) → j < 8 → get_or (to_le_bytes w64 (get_or s q 0)) j 0 ≡ byte_at s (8 * q + j)
unfolding byte_at
lane_byte s q j lt =
    let x = get_or s q 0 in
    let at : q ≡ (8 * q + j) / 8 = omega arith in
    let low : j ≡ (8 * q + j) % 8 = omega arith in
    let bytes : to_le_bytes w64 (get_or s q 0) ≡ map (λ i. get_or s q 0 / 2 ^ (8 * i) % 256) (range_with_len 0 8) =
    ap (λ b. b % 256 ∷ x / 256 % 256 ∷ x / 65536 % 256 ∷ x / 16777216 % 256 ∷ x / 4294967296 % 256 ∷ x / 1099511627776 % 256 ∷ x / 281474976710656 % 256 ∷ x / 72057594037927936 % 256 ∷ []) (omega arith) in
    ap (λ bs. get_or bs j 0) bytes
    ∙ get_or-map-range_with_len (λ i. x / 2 ^ (8 * i) % 256) 0 8 j j 0 lt (omega arith)
    ∙ ap₂ (λ q i. get_or s q 0 / 2 ^ (8 * i) % 256) at low
