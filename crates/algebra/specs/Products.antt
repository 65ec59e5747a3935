-- Products of bytes as polynomials over {0, 1}: bilinear over exclusive or, so commutative and associative. Assumes nothing.
use Rattle.std.specs.Prelude.{◌≡◌, ℕ, zero, suc, ◌*◌, ◌/◌, ◌%◌, ◌<◌, ◌≢◌, bit_xor, refl}
use Rattle.std.proofs.Common.{sym, ap, ap₂, ◌∙◌, mod-lt, zero-mul, one-mul, add-zero, arith, lit<}
use Rattle.std.proofs.lemmas.Nat.{xor_lt, xor_comm, xor_block, xor_shr, xor_mod}
use Rattle.std.specs.Int.Bits.{xor_assoc}
use Rattle.theory.proofs.Sweeps.{sweep}
use Rattle.algebra.specs.Gf256.{double, product_of, times, squares, inverse}

-- a fact of 0 and 1 is one of each bit
pub bit_cases : (P : ℕ → Type 0) (n : ℕ) → n < 2 → P 0 → P 1 → P n
bit_cases P zero h p q = p
bit_cases P (suc zero) h p q = q
bit_cases P (suc (suc n)) h p q = absurd (omega arith)

low_bit : (P : ℕ → Type 0) (a : ℕ) → P 0 → P 1 → P (a % 2)
low_bit P a = bit_cases P (a % 2) (mod-lt a (lit< tt))

pub xor_lt256 : (a b : ℕ) → a < 256 → b < 256 → bit_xor a b < 256
xor_lt256 = xor_lt 8

xor4 : (a b c d : ℕ) → bit_xor (bit_xor a b) (bit_xor c d) ≡ bit_xor (bit_xor a c) (bit_xor b d)
xor4 a b c d =
    xor_assoc a b (bit_xor c d)
    ∙ ap (bit_xor a) (sym (xor_assoc b c d) ∙ ap (λ (x : ℕ). bit_xor x d) (xor_comm b c) ∙ xor_assoc c b d)
    ∙ sym (xor_assoc a c (bit_xor b d))

-- ---- the product by x

pub double_lt : (b : ℕ) → b < 256 → double b < 256
unfolding double
double_lt b h = xor_lt256 ((b % 128) * 2) (27 * (b / 128)) (omega arith) (omega arith)

moved_linear : (a b : ℕ) → bit_xor a b * 2 ≡ bit_xor (a * 2) (b * 2)
moved_linear a b = sym (simp add-zero at (xor_block 1 a b 0 0 (lit< tt) (lit< tt)))

added_linear : (a b : ℕ) → a < 2 → b < 2 → 27 * bit_xor a b ≡ bit_xor (27 * a) (27 * b)
added_linear a b ha hb =
    bit_cases (λ (n : ℕ). 27 * bit_xor n b ≡ bit_xor (27 * n) (27 * b)) a ha
    (bit_cases (λ (n : ℕ). 27 * bit_xor 0 n ≡ bit_xor (27 * 0) (27 * n)) b hb refl refl)
    (bit_cases (λ (n : ℕ). 27 * bit_xor 1 n ≡ bit_xor (27 * 1) (27 * n)) b hb refl refl)

pub double_linear : (a b : ℕ) → a < 256 → b < 256 → double (bit_xor a b) ≡ bit_xor (double a) (double b)
unfolding double
double_linear a b ha hb =
    ap₂ bit_xor
    (ap (λ (n : ℕ). n * 2) (xor_mod a b 7) ∙ moved_linear (a % 128) (b % 128))
    (ap (λ (n : ℕ). 27 * n) (xor_shr a b 7) ∙ added_linear (a / 128) (b / 128) (omega arith) (omega arith))
    ∙ xor4 ((a % 128) * 2) ((b % 128) * 2) (27 * (a / 128)) (27 * (b / 128))

-- ---- the product by one bit

pub scaled_lt : (a b : ℕ) → b < 256 → (a % 2) * b < 256
scaled_lt a b h = low_bit (λ (n : ℕ). n * b < 256) a (omega arith) (omega arith)

scaled_linear : (a b c : ℕ) → (a % 2) * bit_xor b c ≡ bit_xor ((a % 2) * b) ((a % 2) * c)
scaled_linear a b c =
    low_bit (λ (n : ℕ). n * bit_xor b c ≡ bit_xor (n * b) (n * c)) a
    (zero-mul (bit_xor b c) ∙ sym (ap₂ bit_xor (zero-mul b) (zero-mul c)))
    (one-mul (bit_xor b c) ∙ sym (ap₂ bit_xor (one-mul b) (one-mul c)))

scaled_commutes : (a : ℕ) (f : ℕ → ℕ) → f 0 ≡ 0 → (b : ℕ) → (a % 2) * f b ≡ f ((a % 2) * b)
scaled_commutes a f z b =
    low_bit (λ (n : ℕ). n * f b ≡ f (n * b)) a
    (zero-mul (f b) ∙ sym (ap f (zero-mul b) ∙ z))
    (one-mul (f b) ∙ sym (ap f (one-mul b)))

-- ---- the product

pub product_lt : (k a b : ℕ) → b < 256 → product_of k a b < 256
unfolding product_of
product_lt zero a b h = lit< tt
product_lt (suc k) a b h = xor_lt256 _ _ (scaled_lt a b h) (product_lt k (a / 2) (double b) (double_lt b h))

product_linear : (k a b c : ℕ) → b < 256 → c < 256 → product_of k a (bit_xor b c) ≡ bit_xor (product_of k a b) (product_of k a c)
unfolding product_of
product_linear zero a b c hb hc = refl
product_linear (suc k) a b c hb hc =
    ap₂ bit_xor (scaled_linear a b c)
    (ap (product_of k (a / 2)) (double_linear b c hb hc)
    ∙ product_linear k (a / 2) (double b) (double c) (double_lt b hb) (double_lt c hc))
    ∙ xor4 ((a % 2) * b) ((a % 2) * c) (product_of k (a / 2) (double b)) (product_of k (a / 2) (double c))

product-zero : (k a : ℕ) → product_of k a 0 ≡ 0
unfolding product_of double
product-zero zero a = refl
product-zero (suc k) a = ap₂ bit_xor (low_bit (λ (n : ℕ). n * 0 ≡ 0) a refl refl) (product-zero k (a / 2))

-- a map that is linear and commutes with the product by x
record Linear (f : ℕ → ℕ) : Type 0 where
  zero_at : f 0 ≡ 0
  below : (b : ℕ) → b < 256 → f b < 256
  sums : (b c : ℕ) → b < 256 → c < 256 → f (bit_xor b c) ≡ bit_xor (f b) (f c)
  doubles : (b : ℕ) → b < 256 → f (double b) ≡ double (f b)

-- it commutes with every product
through : (f : ℕ → ℕ) → Linear f → (k a b : ℕ) → b < 256 → product_of k a (f b) ≡ f (product_of k a b)
unfolding product_of
through f g zero a b h = sym g.zero_at
through f g (suc k) a b h =
    ap₂ bit_xor (scaled_commutes a f g.zero_at b)
    (ap (product_of k (a / 2)) (sym (g.doubles b h)) ∙ through f g k (a / 2) (double b) (double_lt b h))
    ∙ sym (g.sums ((a % 2) * b) (product_of k (a / 2) (double b)) (scaled_lt a b h) (product_lt k (a / 2) (double b) (double_lt b h)))

double_is_linear : Linear double
unfolding double
double_is_linear = record { zero_at = refl; below = double_lt; sums = double_linear; doubles = λ b h. refl }

times_is_linear : (a : ℕ) → Linear (times a)
unfolding times
times_is_linear a = record {
  zero_at = product-zero 8 a;
  below = product_lt 8 a;
  sums = product_linear 8 a;
  doubles = λ b h. through double double_is_linear 8 a b h;
}

pub times_lt : (a b : ℕ) → b < 256 → times a b < 256
times_lt a = (times_is_linear a).below

pub times_linear : (a b c : ℕ) → b < 256 → c < 256 → times a (bit_xor b c) ≡ bit_xor (times a b) (times a c)
times_linear a = (times_is_linear a).sums

pub times-one : (a : ℕ) → a < 256 → times a 1 ≡ a
unfolding times product_of double
times-one = sweep 256 (λ a. times a 1) (λ a. a) tt

times_through : (f : ℕ → ℕ) → Linear f → (a b : ℕ) → b < 256 → times a (f b) ≡ f (times a b)
unfolding times
times_through f g = through f g 8

-- a map that commutes with every product takes b to its value at 1 times b, so products commute
pub times_comm : (a b : ℕ) → a < 256 → b < 256 → times a b ≡ times b a
times_comm a b ha hb =
    ap (times a) (sym (times-one b hb)) ∙ times_through (times b) (times_is_linear b) a 1 (lit< tt) ∙ ap (times b) (times-one a ha)

pub times_assoc : (a b c : ℕ) → a < 256 → b < 256 → c < 256 → times (times a b) c ≡ times a (times b c)
times_assoc a b c ha hb hc =
    times_comm (times a b) c (times_lt a b hb) hc
    ∙ times_through (times a) (times_is_linear a) c b hb
    ∙ ap (times a) (times_comm c b hc hb)

-- ---- the inverse

pub squares_lt : (k a r : ℕ) → a < 256 → r < 256 → squares k a r < 256
unfolding squares
squares_lt zero a r ha hr = hr
squares_lt (suc k) a r ha hr =
    squares_lt k (times a a) (times r (times a a)) (times_lt a a ha) (times_lt r (times a a) (times_lt a a ha))

pub inverse_lt : (a : ℕ) → a < 256 → inverse a < 256
unfolding inverse
inverse_lt a h = squares_lt 7 a 1 h (lit< tt)

inverse_next : (k : ℕ) → k < 255 → times (suc k) (inverse (suc k)) ≡ 1
unfolding inverse squares times product_of double
inverse_next = sweep 255 (λ k. times (suc k) (inverse (suc k))) (λ _. 1) tt

pub times-inverse : (a : ℕ) → a < 256 → (a ≢ 0) → times a (inverse a) ≡ 1
times-inverse zero h ne = absurd (ne refl)
times-inverse (suc a) h ne = inverse_next a (omega arith)
