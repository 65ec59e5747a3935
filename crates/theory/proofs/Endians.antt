-- Numbers as bytes, and back. Assumes nothing.
use Rattle.std.proofs.Common.{◌≡◌, ℕ, zero, suc, ◌+◌, ◌*◌, ◌/◌, ◌%◌, ◌^◌, ◌<◌, List, [], ◌∷◌, ◌++◌, reverse, length, sym, refl, ap, ◌∙◌, subst, ap₂, pow-suc, arith}
use mathlib.Core.List.{reverse-cons}
use native.Mathlib.Nat.{pow-zero}
use Rattle.std.specs.List.{AllByRecursion}
use Rattle.std.proofs.lemmas.List.{reverse-reverse, length-reverse}
use Rattle.theory.specs.Endian.{little_endian, big_endian, little_value, big_value}
use Rattle.theory.specs.Statements.{EndianInverse}

pub length_little : (n v : ℕ) → length (little_endian n v) ≡ n
length_little zero v = refl
length_little (suc n) v = ap suc (length_little n (v / 256))

pub length_big : (n v : ℕ) → length (big_endian n v) ≡ n
length_big n v = length-reverse (little_endian n v) ∙ length_little n v

pub little_small : (n v : ℕ) → AllByRecursion (λ b. b < 256) (little_endian n v)
little_small zero v = tt
little_small (suc n) v = (omega arith, little_small n (v / 256))

little_value_lem : (n v : ℕ) → v < 256 ^ n → little_value (little_endian n v) ≡ v
little_value_lem zero v h = let less : v < 1 = subst (λ (k : ℕ). v < k) (pow-zero 256) h in omega arith
little_value_lem (suc n) v h =
    let less : v < 256 ^ n * 256 = subst (λ (k : ℕ). v < k) (pow-suc 256 n) h in
    let rest : little_value (little_endian n (v / 256)) ≡ v / 256 = little_value_lem n (v / 256) (omega arith) in
    omega arith

little_bytes : (bs : List ℕ) → AllByRecursion (λ b. b < 256) bs → little_endian (length bs) (little_value bs) ≡ bs
little_bytes [] a = refl
little_bytes (b ∷ bs) a =
    let small : b < 256 = a.0 in
    let low : (b + 256 * little_value bs) % 256 ≡ b = omega arith in
    let high : (b + 256 * little_value bs) / 256 ≡ little_value bs = omega arith in
    ap₂ (λ (x : ℕ) (xs : List ℕ). x ∷ xs) low (ap (little_endian (length bs)) high ∙ little_bytes bs a.1)

little_bound : (bs : List ℕ) → AllByRecursion (λ b. b < 256) bs → little_value bs < 256 ^ length bs
little_bound [] a = subst (λ (k : ℕ). 0 < k) (sym (pow-zero 256)) (omega arith)
little_bound (b ∷ bs) a =
    let small : b < 256 = a.0 in
    let rest : little_value bs < 256 ^ length bs = little_bound bs a.1 in
    subst (λ (k : ℕ). b + 256 * little_value bs < k) (sym (pow-suc 256 (length bs))) (omega arith)

all_append : {X : Type 0} (P : X → Type 0) (xs ys : List X) → AllByRecursion P xs → AllByRecursion P ys → AllByRecursion P (xs ++ ys)
all_append P [] ys a b = b
all_append P (x ∷ xs) ys a b = (a.0, all_append P xs ys a.1 b)

all-reverse : {X : Type 0} (P : X → Type 0) (xs : List X) → AllByRecursion P xs → AllByRecursion P (reverse xs)
all-reverse P [] a = tt
all-reverse P (x ∷ xs) a =
    subst (AllByRecursion P) (sym (reverse-cons x xs)) (all_append P (reverse xs) (x ∷ []) (all-reverse P xs a.1) (a.0, tt))

big_bytes : (bs : List ℕ) → AllByRecursion (λ b. b < 256) bs → big_endian (length bs) (big_value bs) ≡ bs
big_bytes bs a =
    ap (λ (n : ℕ). reverse (little_endian n (little_value (reverse bs)))) (sym (length-reverse bs))
    ∙ ap reverse (little_bytes (reverse bs) (all-reverse (λ b. b < 256) bs a))
    ∙ reverse-reverse bs

pub endian-inverse : EndianInverse
endian-inverse = record {
  little_value_lem = little_value_lem;
  little_bytes = little_bytes;
  big_value_lem = λ n v h. ap little_value (reverse-reverse (little_endian n v)) ∙ little_value_lem n v h;
  big_bytes = big_bytes;
  little_bound = little_bound;
}
