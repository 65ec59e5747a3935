-- Hexadecimal, one byte after the other. Assumes nothing.
use Rattle.std.proofs.Common.{◌≡◌, ℕ, zero, suc, ◌+◌, ◌*◌, ◌/◌, ◌%◌, ◌<◌, List, [], ◌∷◌, ◌++◌, length, get_or, slice_index, take, drop, Some, None, Option, sym, refl, ap, ◌∙◌, append_assoc, arith}
use Rattle.std.proofs.lemmas.List.{take_more, drop_more}
use Rattle.std.specs.Simd.{first_chunks}
use Rattle.hexadecimal.specs.Digits.{digit_of, encoded, byte_of, cons, decoded}

encoded-append : (xs ys : List ℕ) → encoded (xs ++ ys) ≡ encoded xs ++ encoded ys
encoded-append [] ys = refl
encoded-append (x ∷ xs) ys = ap (λ (l : List ℕ). digit_of (x / 16) ∷ digit_of (x % 16) ∷ l) (encoded-append xs ys)

pub encoded_more : (bs : List ℕ) (i : ℕ) → i < length bs
    → encoded (take (i + 1) bs) ≡ encoded (take i bs) ++ (digit_of (get_or bs i 0 / 16) ∷ digit_of (get_or bs i 0 % 16) ∷ [])
encoded_more bs i h = ap encoded (take_more bs i 0 h) ∙ encoded-append (take i bs) (get_or bs i 0 ∷ [])

-- bytes before those that a text stands for
abbrev pub before : List ℕ → Option (List ℕ) → Option (List ℕ)
before xs None = None
before xs (Some ys) = Some (xs ++ ys)

pub before_none : (o : Option (List ℕ)) → before [] o ≡ o
before_none None = refl
before_none (Some ys) = refl

-- the bytes that pairs of characters stand for
abbrev pub decoded_pairs : List (List ℕ) → Option (List ℕ)
decoded_pairs [] = Some []
decoded_pairs (p ∷ ps) = cons (byte_of (slice_index p 0) (slice_index p 1)) (decoded_pairs ps)

pub decoded_by_pairs : (text : List ℕ) (n : ℕ) → length text ≡ 2 * n → decoded text ≡ decoded_pairs (first_chunks 2 n text)
decoded_by_pairs [] zero e = refl
decoded_by_pairs [] (suc n) e = absurd (omega arith)
decoded_by_pairs (c ∷ []) n e = absurd (omega arith)
decoded_by_pairs (c ∷ d ∷ rest) zero e = absurd (omega arith)
decoded_by_pairs (c ∷ d ∷ rest) (suc n) e = ap (cons (byte_of c d)) (decoded_by_pairs rest n (omega arith))

-- an odd text is unreadable
pub decoded_odd : (text : List ℕ) (n : ℕ) → length text ≡ 2 * n + 1 → decoded text ≡ None
decoded_odd [] n e = absurd (omega arith)
decoded_odd (c ∷ []) n e = refl
decoded_odd (c ∷ d ∷ rest) zero e = absurd (omega arith)
decoded_odd (c ∷ d ∷ rest) (suc n) e = ap (cons (byte_of c d)) (decoded_odd rest n (omega arith)) ∙ nothing (byte_of c d)
  where
    nothing : (o : Option ℕ) → cons o None ≡ None
    nothing None = refl
    nothing (Some b) = refl

cons-before : (xs : List ℕ) (b : ℕ) (rest : Option (List ℕ)) → before xs (cons (Some b) rest) ≡ before (xs ++ (b ∷ [])) rest
cons-before xs b None = refl
cons-before xs b (Some ys) = ap (λ (zs : List ℕ). Some zs) (sym (append_assoc xs (b ∷ []) ys))

-- one turn of decoding, once the pairs before place i stand for the bytes xs, and the pair there for b
pub decoded_turn : (pairs : List (List ℕ)) (i : ℕ) (xs ys : List ℕ) (b : ℕ) → i < length pairs
    → byte_of (slice_index (get_or pairs i []) 0) (slice_index (get_or pairs i []) 1) ≡ Some b → ys ≡ xs ++ (b ∷ [])
    → before xs (decoded_pairs (drop i pairs)) ≡ before ys (decoded_pairs (drop (i + 1) pairs))
decoded_turn pairs i xs ys b within e pushed =
    let split = drop_more pairs i [] within in
    let joined = cons-before xs b (decoded_pairs (drop (i + 1) pairs)) in
    cc
