-- The whole chunks of a list, and whether those in front are hot. Assumes nothing.
use Rattle.std.proofs.Common.{◌≡◌, ℕ, zero, suc, ◌+◌, ◌*◌, ◌/◌, ◌<◌, ◌≤◌, Bool, ◌&&◌, List, [], ◌∷◌, length, take, drop, Some, None, sym, refl, ap, ◌∙◌, ap₂, length-append, arith}
use Rattle.std.specs.List.{list_all}
use Rattle.std.specs.Slice.Iter.{chunks_exact_rest, chunks_exact_size, chunks_exact_steps}
use Rattle.std.specs.declared.slice.ChunksExact.{ChunksExact}
use Rattle.std.proofs.Math.Nat.{add-div_left, div-eq_of_lt, le-div_iff_mul-le}
use Rattle.std.proofs.lemmas.List.{take_at, drop_at}
use Rattle.std.proofs.lemmas.Iterator.{YieldsList}
use Rattle.std.proofs.lemmas.Iterator.Splits.{YieldsList-from_shown_while}
use denote.Ref.{Bor}
use Rattle.algebra.specs.Fields.{Ops}
use Rattle.regular.specs.Regular.{hot, all_hot}

module _ {X : Type 0} where
  -- the first count chunks of n elements
  abbrev pub pieces : ℕ → ℕ → List X → List (List X)
  pieces n zero xs = []
  pieces n (suc count) xs = take n xs ∷ pieces n count (drop n xs)

  -- the chunks that an iterator has left
  abbrev pub left : ChunksExact X → List (List X)
  left s = pieces (chunks_exact_size s) (length (chunks_exact_rest s) / chunks_exact_size s) (chunks_exact_rest s)

  left_none : (s t : ChunksExact X) → 0 < chunks_exact_size s → chunks_exact_steps s None t → length (left s) ≡ 0
  left_none s t some step = ap (λ (k : ℕ). length (pieces (chunks_exact_size s) k (chunks_exact_rest s))) (div-eq_of_lt step.1.0)

  left_more : (s : ChunksExact X) (x : Bor (List X)) (t : ChunksExact X) → 0 < chunks_exact_size s → chunks_exact_steps s (Some x) t
      → (0 < chunks_exact_size t) × (left s ≡ x.now ∷ left t)
  left_more s x t some step =
      let n = chunks_exact_size s in
      let rest = chunks_exact_rest t in
      let count : length (chunks_exact_rest s) / n ≡ suc (length rest / n) =
      ap (λ (k : ℕ). k / n) (ap length step.1.0 ∙ length-append x.now rest ∙ ap (λ (k : ℕ). k + length rest) step.1.1) ∙ add-div_left (length rest) some ∙ omega arith in (
        omega (arith, step.0),
        ap₂ (pieces n) count step.1.0 ∙ ap₂ (λ (a b : List X). a ∷ pieces n (length rest / n) b) (take_at x.now rest n step.1.1) (drop_at x.now rest n step.1.1)
            ∙ ap (λ (k : ℕ). x.now ∷ pieces k (length rest / k) rest) (sym step.0),
      )

  pub chunks : (s : ChunksExact X) → 0 < chunks_exact_size s → YieldsList chunks_exact_steps (λ x. x.now) s (left s)
  chunks s some = YieldsList-from_shown_while chunks_exact_steps (λ x. x.now) left (λ t. 0 < chunks_exact_size t) left_none left_more s some

module _ {F : Type 0} (o : Ops F) where
  pieces-hot : (n count all : ℕ) (xs : List F) → count ≤ all → list_all (hot o) (take count (pieces n all xs)) ≡ all_hot o n count xs
  pieces-hot n zero all xs h = refl
  pieces-hot n (suc count) zero xs h = absurd (omega arith)
  pieces-hot n (suc count) (suc all) xs h = ap (λ (b : Bool). hot o (take n xs) && b) (pieces-hot n count all (drop n xs) (omega arith))

  pub chunks-hot : (s : ChunksExact F) (n count : ℕ) (xs : List F) → 0 < n → count * n ≤ length xs → chunks_exact_size s ≡ n → chunks_exact_rest s ≡ xs
      → list_all (hot o) (take count (left s)) ≡ all_hot o n count xs
  chunks-hot s n count xs some room size rest =
      ap₂ (λ (k : ℕ) (ys : List F). list_all (hot o) (take count (pieces k (length ys / k) ys))) size rest
      ∙ pieces-hot n count (length xs / n) xs ((le-div_iff_mul-le some).1 room)
