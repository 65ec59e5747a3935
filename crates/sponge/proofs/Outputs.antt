-- Pieces of the output join. Assumes nothing.
use Rattle.std.proofs.Common.{◌≡◌, ℕ, ◌+◌, ◌-◌, ◌<◌, List, ◌++◌, length, get_or, ap, ◌∙◌, inl, inr, arith}
use Rattle.std.proofs.lemmas.List.{length-append, get_or_append_left, get_or-append_right}
use Rattle.std.proofs.lemmas.List.FromFn.{length-map-range_with_len, get_or-map-range_with_len, fill_by_all}
use Rattle.std.proofs.lemmas.Bool.{cases_lt}
use Rattle.sponge.specs.Shake.{shake_byte, shake}

pub length-shake : (m : List ℕ) (k n : ℕ) → length (shake m k n) ≡ n
unfolding shake
length-shake m k n = length-map-range_with_len (λ j. shake_byte m (k + j)) 0 n

pub shake_at : (m : List ℕ) (k n i : ℕ) → i < n → get_or (shake m k n) i 0 ≡ shake_byte m (k + i)
unfolding shake
shake_at m k n i h = get_or-map-range_with_len (λ j. shake_byte m (k + j)) 0 n i i 0 h (omega arith)

pub shake_join : (m : List ℕ) (k n o : ℕ) → shake m k n ++ shake m (k + n) o ≡ shake m k (n + o)
unfolding shake
shake_join m k n o =
    let xs = shake m k n in
    let ys = shake m (k + n) o in
    let lx = length-shake m k n in
    let long : length (shake m k n ++ shake m (k + n) o) ≡ n + o = omega (arith, length-append xs ys, length-shake m (k + n) o) in
    fill_by_all (λ j. shake_byte m (k + j)) (xs ++ ys) (n + o) 0 long
    (λ j h.
    elim (cases_lt j n) [
      | inl lt ↦ get_or_append_left xs ys 0 j (omega arith) ∙ shake_at m k n j lt
      | inr ge ↦
          let e : k + n + (j - n) ≡ k + j = omega arith in
          get_or-append_right xs ys n j 0 lx ge ∙ shake_at m (k + n) o (j - n) (omega arith) ∙ ap (shake_byte m) e
    ])
