-- Products by x and by x + 1 in GF(256), and sums of bytes. Assumes nothing.
use Rattle.std.proofs.Common.{◌≡◌, ℕ, ◌<◌, List, get_or, sym, ap, ◌∙◌, ap₂, one-mul, zero-mul, arith}
use lib.Bits.{xor_zero_l, xor_zero_r, xor_comm, xor_assoc}
use Rattle.algebra.specs.Gf256.{double, product_of, times}
use Rattle.algebra.specs.Products.{double_linear}
use Rattle.cipher.specs.Word.{◌⊕◌, add_words, double_word, rot_word, mix_column}
use Rattle.cipher.proofs.Fours.{same}

pub times-two : (b : ℕ) → times 2 b ≡ double b
unfolding times product_of
times-two b = simp (zero-mul, one-mul, xor_zero_l, xor_zero_r)

pub times_three : (b : ℕ) → times 3 b ≡ b ⊕ double b
unfolding times product_of
times_three b = simp (zero-mul, one-mul, xor_zero_l, xor_zero_r)

-- the last of four to the front
turn : (a b c d : ℕ) → a ⊕ b ⊕ c ⊕ d ≡ d ⊕ a ⊕ b ⊕ c
turn a b c d = grind (arith, xor_comm, xor_assoc)

-- one row of the product with the matrix, from its sums of pairs: p and q double a0 and a1
row : (p q a1 a2 a3 : ℕ) → p ⊕ q ⊕ a1 ⊕ (a2 ⊕ a3) ≡ p ⊕ (a1 ⊕ q) ⊕ a2 ⊕ a3
row p q a1 a2 a3 = grind (arith, xor_comm, xor_assoc)

-- the row of the product whose first byte is a0, computed by pairs
row_0 : (a0 a1 a2 a3 : ℕ) → a0 < 256 → a1 < 256 → double (a0 ⊕ a1) ⊕ a1 ⊕ (a2 ⊕ a3) ≡ times 2 a0 ⊕ times 3 a1 ⊕ a2 ⊕ a3
row_0 a0 a1 a2 a3 h0 h1 =
    ap (λ (x : ℕ). x ⊕ a1 ⊕ (a2 ⊕ a3)) (double_linear a0 a1 h0 h1)
    ∙ row (double a0) (double a1) a1 a2 a3
    ∙ ap₂ (λ (x y : ℕ). x ⊕ y ⊕ a2 ⊕ a3) (sym (times-two a0)) (sym (times_three a1))

-- the same row, in the orders in which the matrix has it
row_1 : (a0 a1 a2 a3 : ℕ) → a0 < 256 → a1 < 256 → double (a0 ⊕ a1) ⊕ a1 ⊕ (a2 ⊕ a3) ≡ a3 ⊕ times 2 a0 ⊕ times 3 a1 ⊕ a2
row_1 a0 a1 a2 a3 h0 h1 = row_0 a0 a1 a2 a3 h0 h1 ∙ turn (times 2 a0) (times 3 a1) a2 a3

row_2 : (a0 a1 a2 a3 : ℕ) → a0 < 256 → a1 < 256 → double (a0 ⊕ a1) ⊕ a1 ⊕ (a2 ⊕ a3) ≡ a2 ⊕ a3 ⊕ times 2 a0 ⊕ times 3 a1
row_2 a0 a1 a2 a3 h0 h1 = row_1 a0 a1 a2 a3 h0 h1 ∙ turn a3 (times 2 a0) (times 3 a1) a2

row_3 : (a0 a1 a2 a3 : ℕ) → a0 < 256 → a1 < 256 → double (a0 ⊕ a1) ⊕ a1 ⊕ (a2 ⊕ a3) ≡ times 3 a1 ⊕ a2 ⊕ a3 ⊕ times 2 a0
row_3 a0 a1 a2 a3 h0 h1 = row_2 a0 a1 a2 a3 h0 h1 ∙ turn a2 a3 (times 2 a0) (times 3 a1)

-- the sums of neighbours, doubled, with what is missing added, are the product with the matrix
pub pairs-mixed : (s : List ℕ) → ((i : ℕ) → get_or s i 0 < 256) → add_words (add_words (double_word (add_words s (rot_word s))) (rot_word s)) (rot_word (rot_word (add_words s (rot_word s)))) ≡ mix_column s
unfolding add_words double_word rot_word mix_column
pairs-mixed s h =
    let a = λ (i : ℕ). get_or s i 0 in
    let r0 = row_0 (a 0) (a 1) (a 2) (a 3) (h 0) (h 1) in
    let r1 = row_1 (a 1) (a 2) (a 3) (a 0) (h 1) (h 2) in
    let r2 = row_2 (a 2) (a 3) (a 0) (a 1) (h 2) (h 3) in
    let r3 = row_3 (a 3) (a 0) (a 1) (a 2) (h 3) (h 0) in
    same r0 r1 r2 r3
