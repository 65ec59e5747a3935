-- What is held byte by byte is what the block form says. Assumes nothing.
use Rattle.std.proofs.Common.{◌≡◌, ℕ, zero, suc, ◌+◌, ◌-◌, ◌*◌, ◌/◌, ◌%◌, ◌^◌, ◌<◌, ◌≤◌, List, [], ◌∷◌, ◌++◌, length, get_or, take, drop, set, replicate, sym, refl, ap, ◌∙◌, ap₂, zero-mul, arith}
use lib.Bits.{bit_xor, xor_zero_r, xor_assoc}
use Rattle.std.proofs.lemmas.List.{length-append, length-set, length-drop, length-replicate, take_all, drop_all, take-append-le, drop-append-le, get_or-set_same, set-set, set-get_or}
use Rattle.keccak.specs.Keccak.{permuted, rounds, round_of, iota, chi}
use Rattle.sponge.specs.Shake.{with_byte, mixed, ending, padded, blocks, closed}
use Rattle.sponge.specs.Sponges.{held_at, held}

pub mixed-append : (p : ℕ) (xs ys s : List ℕ) → mixed p (xs ++ ys) s ≡ mixed (p + length xs) ys (mixed p xs s)
unfolding mixed
mixed-append p [] ys s = let e : p ≡ p + 0 = omega arith in ap (λ q. mixed q ys s) e
mixed-append p (x ∷ xs) ys s =
    let e : p + 1 + length xs ≡ p + suc (length xs) = omega arith in
    mixed-append (p + 1) xs ys (with_byte s p x) ∙ ap (λ q. mixed q ys (mixed (p + 1) xs (with_byte s p x))) e

-- lengths
pub length-with_byte : (s : List ℕ) (p b : ℕ) → length (with_byte s p b) ≡ length s
unfolding with_byte
length-with_byte s p b = simp length-set

pub length-mixed : (p : ℕ) (bs s : List ℕ) → length (mixed p bs s) ≡ length s
unfolding mixed
length-mixed p [] s = refl
length-mixed p (b ∷ bs) s = length-mixed (p + 1) bs (with_byte s p b) ∙ length-with_byte s p b

pub length-permuted : (s : List ℕ) → length (permuted s) ≡ 25
unfolding permuted rounds round_of iota chi
length-permuted s = simp length-set

pub length-blocks : (n : ℕ) (bs : List ℕ) → length (blocks n bs) ≡ 25
unfolding blocks
length-blocks zero bs = refl
length-blocks (suc n) bs = length-permuted (mixed 0 (take 136 (drop (136 * n) bs)) (blocks n bs))

pub length-ending : (n : ℕ) → length (ending n) ≡ suc n
unfolding ending
length-ending n = simp (length-set, length-replicate)

-- the first q blocks do not see what follows
pub blocks-append : (q : ℕ) (m n : List ℕ) → 136 * q ≤ length m → blocks q (m ++ n) ≡ blocks q m
unfolding blocks
blocks-append zero m n h = refl
blocks-append (suc q) m n h =
    let le : 136 * q ≤ length m = omega arith in
    let le' : 136 ≤ length (drop (136 * q) m) = simp length-drop (omega arith) in
    let front : take 136 (drop (136 * q) (m ++ n)) ≡ take 136 (drop (136 * q) m) =
    ap (take 136) (drop-append-le (136 * q) m n le) ∙ take-append-le 136 (drop (136 * q) m) n le' in
    ap permuted (ap₂ (mixed 0) front (blocks-append q m n le))

pub held_at-append : (q : ℕ) (m n : List ℕ) → 136 * q ≤ length m → held_at q (m ++ n) ≡ mixed (length m - 136 * q) n (held_at q m)
held_at-append q m n h =
    let rest = drop (136 * q) m in
    let at : 0 + length rest ≡ length m - 136 * q = simp length-drop (omega arith) in
    ap₂ (mixed 0) (drop-append-le (136 * q) m n h) (blocks-append q m n h)
    ∙ mixed-append 0 rest n (blocks q m)
    ∙ ap (λ p. mixed p n (held_at q m)) at

-- a full block is permuted in
pub filled : (q : ℕ) (m : List ℕ) → length m ≡ 136 * suc q → blocks (suc q) m ≡ permuted (held_at q m)
unfolding blocks
filled q m h =
    let le : length (drop (136 * q) m) ≤ 136 = simp length-drop (omega arith) in
    ap (λ b. permuted (mixed 0 b (blocks q m))) (take_all 136 (drop (136 * q) m) le)

pub held_at_full : (q : ℕ) (m : List ℕ) → length m ≡ 136 * q → held_at q m ≡ blocks q m
unfolding mixed
held_at_full q m h = let le : length m ≤ 136 * q = omega arith in ap (λ b. mixed 0 b (blocks q m)) (drop_all (136 * q) m le)

-- more bytes in the same block, and the last bytes of a block
pub held_more : (m n : List ℕ) → length m % 136 + length n < 136 → held (m ++ n) ≡ mixed (length m % 136) n (held m)
unfolding held
held_more m n h =
    let q = length m / 136 in
    let sum = length-append m n in
    let same : length (m ++ n) / 136 ≡ length m / 136 = omega arith in
    let le : 136 * (length m / 136) ≤ length m = omega arith in
    let at : length m - 136 * (length m / 136) ≡ length m % 136 = omega arith in
    ap (λ k. held_at k (m ++ n)) same ∙ held_at-append q m n le ∙ ap (λ p. mixed p n (held_at q m)) at

pub held_full : (m n : List ℕ) → length m % 136 + length n ≡ 136 → held (m ++ n) ≡ permuted (mixed (length m % 136) n (held m))
unfolding held
held_full m n h =
    let q = length m / 136 in
    let sum = length-append m n in
    let next : length (m ++ n) / 136 ≡ suc (length m / 136) = omega arith in
    let all : length (m ++ n) ≡ 136 * suc (length m / 136) = omega arith in
    let le : 136 * (length m / 136) ≤ length m = omega arith in
    let at : length m - 136 * (length m / 136) ≡ length m % 136 = omega arith in
    ap (λ k. held_at k (m ++ n)) next
    ∙ held_at_full (suc q) (m ++ n) all
    ∙ filled q (m ++ n) all
    ∙ ap permuted (held_at-append q m n le ∙ ap (λ p. mixed p n (held_at q m)) at)

-- the padding
pub with_byte-zero : (s : List ℕ) (p : ℕ) → with_byte s p 0 ≡ s
unfolding with_byte
with_byte-zero s p = simp (zero-mul, xor_zero_r, set-get_or)

pub with_byte_last : (s : List ℕ) → length s ≡ 25 → with_byte (with_byte s 135 31) 135 128 ≡ with_byte s 135 159
unfolding with_byte
with_byte_last s h =
    let v = bit_xor (get_or s 16 0) (31 * 2 ^ 56) in
    let lt : 16 < length s = omega arith in
    ap (λ x. set (set s 16 v) 16 (bit_xor x (128 * 2 ^ 56))) (get_or-set_same s 16 v 0 lt)
    ∙ set-set s 16 v (bit_xor v (128 * 2 ^ 56))
    ∙ ap (set s 16) (xor_assoc (get_or s 16 0) (31 * 2 ^ 56) (128 * 2 ^ 56))

pub last_of_zeros : (n : ℕ) → set (replicate (suc n) 0) n (bit_xor (get_or (replicate (suc n) 0) n 0) 128) ≡ replicate n 0 ++ 128 ∷ []
last_of_zeros zero = refl
last_of_zeros (suc n) = ap (λ l. 0 ∷ l) (last_of_zeros n)

pub mixed_zeros : (n p : ℕ) (s : List ℕ) (b : ℕ) → mixed p (replicate n 0 ++ b ∷ []) s ≡ with_byte s (p + n) b
unfolding mixed
mixed_zeros zero p s b = let e : p ≡ p + 0 = omega arith in ap (λ q. with_byte s q b) e
mixed_zeros (suc n) p s b =
    let e : p + 1 + n ≡ p + suc n = omega arith in
    ap (mixed (p + 1) (replicate n 0 ++ b ∷ [])) (with_byte-zero s p) ∙ mixed_zeros n (p + 1) s b ∙ ap (λ q. with_byte s q b) e

pub mixed-ending : (n p : ℕ) (s : List ℕ) → p + n ≡ 135 → length s ≡ 25 → mixed p (ending n) s ≡ with_byte (with_byte s p 31) 135 128
unfolding mixed ending
mixed-ending zero p s e h =
    let at : p ≡ 135 = omega arith in
    ap (λ q. with_byte s q 159) at ∙ sym (with_byte_last s h) ∙ ap (λ q. with_byte (with_byte s q 31) 135 128) (sym at)
mixed-ending (suc n) p s e h =
    let at : p + 1 + n ≡ 135 = omega arith in
    ap (λ l. mixed (p + 1) l (with_byte s p 31)) (last_of_zeros n)
    ∙ mixed_zeros n (p + 1) (with_byte s p 31) 128
    ∙ ap (λ q. with_byte (with_byte s p 31) q 128) at

pub length-held : (m : List ℕ) → length (held m) ≡ 25
unfolding held
length-held m = length-mixed 0 (drop (136 * (length m / 136)) m) (blocks (length m / 136) m) ∙ length-blocks (length m / 136) m

pub closing : (m : List ℕ) → closed m ≡ permuted (with_byte (with_byte (held m) (length m % 136) 31) 135 128)
unfolding closed padded held
closing m =
    let q = length m / 136 in
    let end = ending (135 - length m % 136) in
    let below : length m % 136 < 136 = omega arith in
    let long : length (m ++ end) ≡ 136 * suc (length m / 136) = omega (arith, length-append m end, length-ending (135 - length m % 136)) in
    let count : length (m ++ end) / 136 ≡ suc (length m / 136) = omega arith in
    let le : 136 * (length m / 136) ≤ length m = omega arith in
    let at : length m - 136 * (length m / 136) ≡ length m % 136 = omega arith in
    let sum : length m % 136 + (135 - length m % 136) ≡ 135 = omega arith in
    ap (λ k. blocks k (m ++ end)) count
    ∙ filled q (m ++ end) long
    ∙ ap permuted
    (held_at-append q m end le
    ∙ ap (λ p. mixed p end (held_at q m)) at
    ∙ mixed-ending (135 - length m % 136) (length m % 136) (held_at q m) sum (length-held m))
