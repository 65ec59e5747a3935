-- To mix bytes in is to xor the state's bytes. Assumes nothing.
use Rattle.std.proofs.Common.{◌≡◌, ℕ, suc, ◌+◌, ◌-◌, ◌*◌, ◌/◌, ◌%◌, ◌^◌, ◌<◌, ◌≤◌, List, [], ◌∷◌, length, get_or, set, sym, refl, ap, ◌∙◌, inl, inr, mod-eq_of_lt, mul_assoc, arith}
use native.Mathlib.Nat.{mul-mod_left, div-eq_of_lt, zero-div}
use lib.Bits.{bit_xor, xor_zero_r}
use Rattle.std.proofs.lemmas.Nat.{shl_whole, shl-shr, shr-shr, pow-add, xor_shr, xor_mod}
use Rattle.std.proofs.lemmas.List.{get_or-set_same, get_or-set_other}
use Rattle.std.proofs.lemmas.Bool.{cases_lt, cases_eq}
use Rattle.sponge.specs.Shake.{with_byte, byte_at, mixed}
use Rattle.sponge.proofs.Blocks.{length-with_byte}

-- byte k of a lane that holds b at byte j
lane_same : (b j : ℕ) → b < 256 → j < 8 → (b * 2 ^ (8 * j)) % 2 ^ 64 / 2 ^ (8 * j) % 256 ≡ b
lane_same b j h lt =
    ap (λ x. x / 2 ^ (8 * j) % 256) (shl_whole b 8 (8 * j) 64 h (omega arith))
    ∙ ap (λ x. x % 256) (shl-shr b (8 * j))
    ∙ mod-eq_of_lt h

lane_above : (b j e : ℕ) → b < 256 → j < 8 → (b * 2 ^ (8 * j)) % 2 ^ 64 / 2 ^ (8 * j + (8 + e)) % 256 ≡ 0
lane_above b j e h lt =
    ap (λ x. x / 2 ^ (8 * j + (8 + e)) % 256) (shl_whole b 8 (8 * j) 64 h (omega arith))
    ∙ ap (λ x. x % 256)
    (sym (shr-shr (b * 2 ^ (8 * j)) (8 * j) (8 + e))
    ∙ ap (λ x. x / 2 ^ (8 + e)) (shl-shr b (8 * j))
    ∙ sym (shr-shr b 8 e)
    ∙ ap (λ x. x / 2 ^ e) (div-eq_of_lt h)
    ∙ zero-div (2 ^ e))

lane_below : (b k e : ℕ) → b < 256 → 8 + ((e + 8) + 8 * k) ≤ 64 → (b * 2 ^ ((e + 8) + 8 * k)) % 2 ^ 64 / 2 ^ (8 * k) % 256 ≡ 0
lane_below b k e h lt =
    ap (λ x. x / 2 ^ (8 * k) % 256) (shl_whole b 8 ((e + 8) + 8 * k) 64 h lt)
    ∙ ap (λ x. b * x / 2 ^ (8 * k) % 256) (pow-add 2 (e + 8) (8 * k))
    ∙ ap (λ x. x / 2 ^ (8 * k) % 256) (sym (mul_assoc b (2 ^ (e + 8)) (2 ^ (8 * k))))
    ∙ ap (λ x. x % 256) (shl-shr (b * 2 ^ (e + 8)) (8 * k) ∙ ap (λ x. b * x) (pow-add 2 e 8) ∙ sym (mul_assoc b (2 ^ e) (2 ^ 8)))
    ∙ mul-mod_left (b * 2 ^ e) 256

lane_other : (b j k : ℕ) → b < 256 → j < 8 → k < 8 → (j ≡ k → ⊥) → (b * 2 ^ (8 * j)) % 2 ^ 64 / 2 ^ (8 * k) % 256 ≡ 0
lane_other b j k h lj lk ne =
    elim (cases_lt j k) [
      | inl lt ↦
          let e : 8 * k ≡ 8 * j + (8 + (8 * k - 8 * j - 8)) = omega arith in
          ap (λ x. (b * 2 ^ (8 * j)) % 2 ^ 64 / 2 ^ x % 256) e ∙ lane_above b j (8 * k - 8 * j - 8) h lj
      | inr ge ↦
          let lt : k < j = elim (cases_lt k j) [ inl y ↦ y | inr n ↦ elim (ne (omega arith)) [ ] ] in
          let e : 8 * j ≡ ((8 * j - 8 * k - 8) + 8) + 8 * k = omega arith in
          ap (λ x. (b * 2 ^ x) % 2 ^ 64 / 2 ^ (8 * k) % 256) e ∙ lane_below b k (8 * j - 8 * k - 8) h (omega arith)
    ]

split : (x y n : ℕ) → bit_xor x y / 2 ^ n % 256 ≡ bit_xor (x / 2 ^ n % 256) (y / 2 ^ n % 256)
split x y n = ap (λ z. z % 2 ^ 8) (xor_shr x y n) ∙ xor_mod (x / 2 ^ n) (y / 2 ^ n) 8

pub byte_same : (s : List ℕ) (p b : ℕ) → b < 256 → length s ≡ 25 → p < 200 → byte_at (with_byte s p b) p ≡ bit_xor (byte_at s p) b
unfolding byte_at with_byte
byte_same s p b h long lt =
    let x = get_or s (p / 8) 0 in
    let y = (b * 2 ^ (8 * (p % 8))) % 2 ^ 64 in
    let le : p / 8 < length s = omega arith in
    ap (λ z. z / 2 ^ (8 * (p % 8)) % 256) (get_or-set_same s (p / 8) (bit_xor x y) 0 le)
    ∙ split x y (8 * (p % 8))
    ∙ ap (bit_xor (x / 2 ^ (8 * (p % 8)) % 256)) (lane_same b (p % 8) h (omega arith))

pub byte_other : (s : List ℕ) (p k b : ℕ) → b < 256 → length s ≡ 25 → p < 200 → (p ≡ k → ⊥) → byte_at (with_byte s p b) k ≡ byte_at s k
unfolding byte_at with_byte
byte_other s p k b h long lt ne =
    let x = get_or s (p / 8) 0 in
    let y = (b * 2 ^ (8 * (p % 8))) % 2 ^ 64 in
    let le : p / 8 < length s = omega arith in
    elim (cases_eq (k / 8) (p / 8)) [
      | inl is ↦
          let differs : p % 8 ≡ k % 8 → ⊥ = λ e. ne (omega arith) in
          let z = 2 ^ (8 * (k % 8)) in
          ap (λ i. get_or (set s (p / 8) (bit_xor x y)) i 0 / z % 256) is
          ∙ ap (λ v. v / z % 256) (get_or-set_same s (p / 8) (bit_xor x y) 0 le)
          ∙ split x y (8 * (k % 8))
          ∙ ap (bit_xor (x / z % 256)) (lane_other b (p % 8) (k % 8) h (omega arith) (omega arith) differs)
          ∙ xor_zero_r (x / z % 256)
          ∙ ap (λ i. get_or s i 0 / z % 256) (sym is)
      | inr apart ↦ ap (λ v. v / 2 ^ (8 * (k % 8)) % 256) (get_or-set_other s (p / 8) (k / 8) (bit_xor x y) 0 apart)
    ]

mixed-below : (bs : List ℕ) (p k : ℕ) (s : List ℕ) → ((i : ℕ) → get_or bs i 0 < 256) → p + length bs ≤ 200 → length s ≡ 25 → k < p → byte_at (mixed p bs s) k ≡ byte_at s k
unfolding mixed
mixed-below [] p k s small le long lt = refl
mixed-below (b ∷ bs) p k s small le long lt =
    mixed-below bs (p + 1) k (with_byte s p b) (λ i. small (suc i)) (omega arith) (length-with_byte s p b ∙ long) (omega arith)
    ∙ byte_other s p k b (small 0) long (omega arith) (λ e. omega arith)

pub mixed_from : (bs : List ℕ) (p k : ℕ) (s : List ℕ) → ((i : ℕ) → get_or bs i 0 < 256) → p + length bs ≤ 200 → length s ≡ 25 → p ≤ k → byte_at (mixed p bs s) k ≡ bit_xor (byte_at s k) (get_or bs (k - p) 0)
unfolding mixed
mixed_from [] p k s small le long ge = sym (xor_zero_r (byte_at s k))
mixed_from (b ∷ bs) p k s small le long ge =
    let long' = length-with_byte s p b ∙ long in
    elim (cases_eq p k) [
      | inl is ↦
          let none : 0 ≡ k - p = omega arith in
          mixed-below bs (p + 1) k (with_byte s p b) (λ i. small (suc i)) (omega arith) long' (omega arith)
          ∙ ap (byte_at (with_byte s p b)) (sym is)
          ∙ byte_same s p b (small 0) long (omega arith)
          ∙ ap (λ q. bit_xor (byte_at s q) b) is
          ∙ ap (λ i. bit_xor (byte_at s k) (get_or (b ∷ bs) i 0)) none
      | inr apart ↦
          let ge' : p + 1 ≤ k = elim (cases_lt p k) [ inl lt ↦ omega arith | inr n ↦ elim (apart (omega arith)) [ ] ] in
          let next : suc (k - (p + 1)) ≡ k - p = omega arith in
          mixed_from bs (p + 1) k (with_byte s p b) (λ i. small (suc i)) (omega arith) long' ge'
          ∙ ap (λ x. bit_xor x (get_or bs (k - (p + 1)) 0)) (byte_other s p k b (small 0) long (omega arith) apart)
          ∙ ap (λ i. bit_xor (byte_at s k) (get_or (b ∷ bs) i 0)) next
    ]
