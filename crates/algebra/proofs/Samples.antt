-- A sample modulo 251, by the place of the first byte below 251. Assumes nothing.
use Rattle.std.specs.Prelude.{◌≡◌, ℕ, zero, suc, ◌+◌, ◌<◌, ◌≤◌, Bool, List, [], ◌∷◌, length, slice_index, refl}
use Rattle.std.proofs.Common.{sym, ap, ap₂, ◌∙◌, mod-eq_of_lt, add-one, arith, lt-ltb, le-ltb}
use Rattle.algebra.specs.Prime.{at, taken, first_below}
use Rattle.algebra.specs.Primes.{same}
use Rattle.algebra.specs.declared.elements.Mod251.{Mod251}

skips_to : (bs : List ℕ) (i : ℕ) → i < length bs → slice_index bs i < 251 → ((k : ℕ) → k < i → 251 ≤ slice_index bs k)
    → first_below bs ≡ (at (slice_index bs i), suc i)
skips_to [] i h here before = absurd (omega arith)
skips_to (b ∷ bs) zero h here before = ap (λ (t : Bool). taken t b (first_below bs)) (lt-ltb b 251 here)
skips_to (b ∷ bs) (suc i) h here before =
    ap (λ (t : Bool). taken t b (first_below bs)) (le-ltb b 251 (before 0 (omega arith)))
    ∙ ap (λ (s : Mod251 × ℕ). (s.0, suc s.1)) (skips_to bs i (omega arith) here (λ k l. before (suc k) (omega arith)))

pub sample_found : (bs : List ℕ) (i : ℕ) (x : Mod251) → x.value ≡ slice_index bs i → i < length bs → slice_index bs i < 251
    → ((k : ℕ) → k < i → 251 ≤ slice_index bs k) → (x, i + 1) ≡ first_below bs
sample_found bs i x e h here before =
    ap₂ (λ (y : Mod251) (n : ℕ). (y, n)) (same x (at (slice_index bs i)) (e ∙ sym (mod-eq_of_lt here))) (add-one i) ∙ sym (skips_to bs i h here before)

skips_all : (bs : List ℕ) → ((k : ℕ) → k < length bs → 251 ≤ slice_index bs k) → first_below bs ≡ (at 0, length bs)
skips_all [] none = refl
skips_all (b ∷ bs) none =
    ap (λ (t : Bool). taken t b (first_below bs)) (le-ltb b 251 (none 0 (omega arith)))
    ∙ ap (λ (s : Mod251 × ℕ). (s.0, suc s.1)) (skips_all bs (λ k l. none (suc k) (omega arith)))

pub sample_none : (bs : List ℕ) (n : ℕ) (x : Mod251) → x.value ≡ 0 → n ≡ length bs → ((k : ℕ) → k < length bs → 251 ≤ slice_index bs k)
    → (x, n) ≡ first_below bs
sample_none bs n x e long none = ap₂ (λ (y : Mod251) (m : ℕ). (y, m)) (same x (at 0) e) long ∙ sym (skips_all bs none)
