-- The integers modulo 251 keep the laws. Assumes nothing.
use Rattle.std.specs.Prelude.{◌≡◌, ℕ, zero, suc, ◌+◌, ◌*◌, ◌/◌, ◌%◌, ◌^◌, ◌<◌, ◌≤◌, Bool, true, false, List, [], ◌∷◌, length, take, drop, ◌≢◌, nat_lt, slice_index, refl}
use Rattle.std.proofs.Common.{sym, ap, ap₂, subst, ◌∙◌, mod-eq_of_lt, mul_comm, mul_assoc, mul-add, add-mul, add_comm, div-add-mod', mul-one, add-zero, add-one, arith, lt-ltb, le-ltb, lit≤, drop_of_length-le, drop-cons}
use Rattle.std.proofs.Math.Nat.{mod-add-mod, add-mod-mod, mul-add-mod_self_right}
use Rattle.std.proofs.Math.Bridge.{le_prop}
use Rattle.theory.proofs.Sweeps.{sweep}
use Rattle.algebra.specs.Fields.{Laws, Reads}
use Rattle.algebra.specs.Prime.{at, prime, taken, first_below}
use Rattle.algebra.specs.declared.elements.Mod251.{Mod251}

-- an element is its number
pub same : (x y : Mod251) → x.value ≡ y.value → x ≡ y
same x y e =
    let made : (n : ℕ) → n < 251 → Mod251 = λ n h. record { value = n; ok = h } in
    subst (λ (n : ℕ). (h : n < 251) → x ≡ made n h) e (λ h. ap (made x.value) (le_prop x.ok h)) y.ok

-- ---- products of remainders

pub mod-mul : (a b m : ℕ) → (a % m) * b % m ≡ a * b % m
mod-mul a b m =
    sym (mul-add-mod_self_right (a / m * b) m ((a % m) * b))
    ∙ ap (λ (n : ℕ). n % m)
    (ap (λ (n : ℕ). n + (a % m) * b) (mul_assoc (a / m) b m ∙ ap (λ (n : ℕ). a / m * n) (mul_comm b m) ∙ sym (mul_assoc (a / m) m b))
    ∙ sym (add-mul (a / m * m) (a % m) b)
    ∙ ap (λ (n : ℕ). n * b) (div-add-mod' a m))

mul-mod : (a b m : ℕ) → a * (b % m) % m ≡ a * b % m
mul-mod a b m = ap (λ (n : ℕ). n % m) (mul_comm a (b % m)) ∙ mod-mul b a m ∙ ap (λ (n : ℕ). n % m) (mul_comm b a)

inverse_next : (k : ℕ) → k < 250 → suc k * (suc k ^ 249 % 251) % 251 ≡ 1
inverse_next = sweep 250 (λ k. suc k * (suc k ^ 249 % 251) % 251) (λ _. 1) tt

times-inverse : (a : ℕ) → a < 251 → (a ≢ 0) → a * (a ^ 249 % 251) % 251 ≡ 1
times-inverse zero h ne = absurd (ne refl)
times-inverse (suc a) h ne = inverse_next a (omega arith)

pub prime_laws : Laws prime
prime_laws = record {
  ring = record {
    plus_comm = λ x y. ap at (add_comm x.value y.value);
    plus_assoc = λ x y z. same _ _ (omega arith);
    plus-zero = λ x. same _ _ (omega (arith, x.ok));
    plus-negate = λ x. same _ _ (omega (arith, x.ok));
    times_comm = λ x y. ap at (mul_comm x.value y.value);
    times_assoc = λ x y z.
        same _ _
        (mod-mul (x.value * y.value) z.value 251
        ∙ ap (λ (n : ℕ). n % 251) (mul_assoc x.value y.value z.value)
        ∙ sym (mul-mod x.value (y.value * z.value) 251));
    times-one = λ x. same _ _ (ap (λ (n : ℕ). n % 251) (mul-one x.value) ∙ mod-eq_of_lt x.ok);
    distrib = λ x y z.
        same _ _
        (mul-mod x.value (y.value + z.value) 251
        ∙ ap (λ (n : ℕ). n % 251) (mul-add x.value y.value z.value)
        ∙ sym (mod-add-mod (x.value * y.value) 251 (x.value * z.value % 251) ∙ add-mod-mod (x.value * y.value) (x.value * z.value) 251));
  };
  times-inverse = λ x ne. same _ _ (times-inverse x.value x.ok (λ e. ne (same _ _ e)));
  inverse-zero = same _ _ refl;
  numbered = record {
    number-below = λ x. x.ok;
    number_element = λ n h. mod-eq_of_lt h;
    element-number = λ x. same _ _ (mod-eq_of_lt x.ok);
    number-zero = refl;
    number-one = refl;
  };
  size_low = lit≤ tt;
  size_high = lit≤ tt;
}

-- ---- sampling

least : (t : Bool) (b : ℕ) (rest : Mod251 × ℕ) → 1 ≤ (taken t b rest).1
least true b rest = lit≤ tt
least false b rest = omega arith

some : (bs : List ℕ) (n : ℕ) → length bs ≡ suc n → 1 ≤ (first_below bs).1
some [] n e = absurd (omega arith)
some (b ∷ bs) n e = least (nat_lt b 251) b (first_below bs)

one_more : (t : Bool) (b : ℕ) (rest : Mod251 × ℕ) (n : ℕ) → rest.1 ≤ n → (taken t b rest).1 ≤ suc n
one_more true b rest n h = omega arith
one_more false b rest n h = omega arith

most : (bs : List ℕ) → (first_below bs).1 ≤ length bs
most [] = lit≤ tt
most (b ∷ bs) = one_more (nat_lt b 251) b (first_below bs) (length bs) (most bs)

abbrev head : List ℕ → ℕ
head [] = 0
head (b ∷ bs) = b

abbrev tail : List ℕ → List ℕ
tail [] = []
tail (b ∷ bs) = bs

only_step : (t : Bool) (b c : ℕ) (bs cs : List ℕ) (p q : Mod251 × ℕ)
    → (take p.1 bs ≡ take p.1 cs → p ≡ q)
    → take (taken t b p).1 (b ∷ bs) ≡ take (taken t b p).1 (c ∷ cs)
    → (b ≡ c) × (taken t b p ≡ taken t c q)
only_step true b c bs cs p q ih e = let h : b ≡ c = ap head e in (h, ap (λ (n : ℕ). (at n, 1)) h)
only_step false b c bs cs p q ih e = (ap head e, ap (λ (s : Mod251 × ℕ). (s.0, suc s.1)) (ih (ap tail e)))

only : (bs cs : List ℕ) → length bs ≡ length cs → take (first_below bs).1 bs ≡ take (first_below bs).1 cs → first_below bs ≡ first_below cs
only [] [] l e = refl
only [] (c ∷ cs) l e = absurd (omega arith)
only (b ∷ bs) [] l e = absurd (omega arith)
only (b ∷ bs) (c ∷ cs) l e =
    let r = only_step (nat_lt b 251) b c bs cs (first_below bs) (first_below cs) (only bs cs (omega arith)) e in
    r.1 ∙ ap (λ (n : ℕ). taken (nat_lt n 251) c (first_below cs)) r.0

pub prime_reads : Reads first_below
prime_reads = record {
  some = λ bs l. some bs 15 l;
  most = λ bs l. subst (λ (n : ℕ). (first_below bs).1 ≤ n) l (most bs);
  only = λ bs cs l m e. only bs cs (l ∙ sym m) e;
}

-- ---- a sample, once i bytes are skipped

abbrev pub skipped : ℕ → Mod251 × ℕ → Mod251 × ℕ
skipped i rest = (rest.0, i + rest.1)

module _ (bs : List ℕ) (i : ℕ) (within : i < length bs) (inv : first_below bs ≡ skipped i (first_below (drop i bs))) where
  at_byte : (t : Bool) → nat_lt (slice_index bs i) 251 ≡ t → first_below bs ≡ skipped i (taken t (slice_index bs i) (first_below (drop (suc i) bs)))
  at_byte t e =
      inv ∙ ap (λ (l : List ℕ). skipped i (first_below l)) (drop-cons bs i 0 within)
      ∙ ap (λ (s : Bool). skipped i (taken s (slice_index bs i) (first_below (drop (suc i) bs)))) e

  pub sample_found : (x : Mod251) → x.value ≡ slice_index bs i → slice_index bs i < 251 → (x, i + 1) ≡ first_below bs
  sample_found x e h =
      sym (at_byte true (lt-ltb (slice_index bs i) 251 h) ∙ ap (λ (y : Mod251). (y, i + 1)) (same (at (slice_index bs i)) x (mod-eq_of_lt h ∙ sym e)))

  pub sample_more : 251 ≤ slice_index bs i → first_below bs ≡ skipped (i + 1) (first_below (drop (i + 1) bs))
  sample_more h =
      at_byte false (le-ltb (slice_index bs i) 251 h)
      ∙ ap (λ (n : ℕ). ((first_below (drop (suc i) bs)).0, n)) (omega arith)
      ∙ ap (λ (j : ℕ). skipped (i + 1) (first_below (drop j bs))) (sym (add-one i))

pub sample_all : (bs : List ℕ) (i : ℕ) → length bs ≡ 16 → i ≡ 16 → first_below bs ≡ skipped i (first_below (drop i bs)) → (x : Mod251) → x.value ≡ 0 → (x, 16) ≡ first_below bs
sample_all bs i l e inv x z =
    sym (inv ∙ ap (λ (r : List ℕ). skipped i (first_below r)) (drop_of_length-le bs (omega arith))
    ∙ ap₂ (λ (y : Mod251) (n : ℕ). (y, n)) (same _ x (sym z)) (add-zero i ∙ e))
