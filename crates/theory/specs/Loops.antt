-- What loops over places build. Assumes nothing.
use Rattle.std.specs.Prelude.{◌≡◌, ℕ, suc, ◌<◌, List, [], ◌∷◌, length, slice_index_or}

-- a list of n members whose first i are f 0, f 1, ..; what d stands for is not there
abbrev pub Filled : {X : Type 0} → (ℕ → X) → X → ℕ → List X → ℕ → Type 0
Filled f d n out i = (length out ≡ n) × ((k : ℕ) → k < i → slice_index_or out k d ≡ f k)

-- what a turn makes of a, place after place, the first place being i
abbrev pub accumulated : {A X : Type 0} → (A → ℕ → X → A) → A → ℕ → List X → A
accumulated turn a i [] = a
accumulated turn a i (x ∷ xs) = accumulated turn (turn a i x) (suc i) xs
