-- Elements drawn from a stream. Assumes nothing.
use Rattle.std.proofs.Common.{◌≡◌, ℕ, zero, suc, ◌+◌, List, ◌∷◌, ◌++◌, length, refl, ap, ◌∙◌, suc-add, zero-add}
use Rattle.expander.specs.Streams.{window, drawn, after}

module _ {F : Type 0} (sampled : List ℕ → F × ℕ) (f : ℕ → ℕ) where
  pub length-drawn : (k n : ℕ) → length (drawn sampled f k n) ≡ n
  length-drawn k zero = refl
  length-drawn k (suc n) = ap suc (length-drawn (k + (sampled (window f k 16)).1) n)

  -- n elements and then o more are n + o
  pub after_join : (k n o : ℕ) → after sampled f k (n + o) ≡ after sampled f (after sampled f k n) o
  after_join k zero o = ap (after sampled f k) (zero-add o)
  after_join k (suc n) o = ap (after sampled f k) (suc-add n o) ∙ after_join (k + (sampled (window f k 16)).1) n o

  pub drawn_join : (k n o : ℕ) → drawn sampled f k (n + o) ≡ drawn sampled f k n ++ drawn sampled f (after sampled f k n) o
  drawn_join k zero o = ap (drawn sampled f k) (zero-add o)
  drawn_join k (suc n) o =
      ap (drawn sampled f k) (suc-add n o)
      ∙ ap (λ (xs : List F). (sampled (window f k 16)).0 ∷ xs) (drawn_join (k + (sampled (window f k 16)).1) n o)
