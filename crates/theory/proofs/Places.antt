-- Loops over places: one that fills, and one that carries a value. Assumes nothing.
use Rattle.std.proofs.Common.{◌≡◌, ℕ, ◌≤◌, List, length, drop, ap, arith, drop_of_length-le}
use Rattle.std.proofs.lemmas.Grind.{common_steps}
use Rattle.theory.specs.Loops.{accumulated}
use Rattle.theory.specs.Statements.{FillsOneMore, AccumulatesOneMore}

pub fill_more : {X : Type 0} → FillsOneMore X
fill_more {X} f d n out i v h e filled = (grind (arith, common_steps), λ k lt. grind (arith, common_steps, filled.1 k))

pub accumulate_more : {A X : Type 0} → AccumulatesOneMore A X
accumulate_more {A} {X} turn a xs i x h e = grind (arith, common_steps)

pub accumulate_all : {A X : Type 0} (turn : A → ℕ → X → A) (a : A) (xs : List X) (i : ℕ) → length xs ≤ i → accumulated turn a i (drop i xs) ≡ a
accumulate_all turn a xs i h = ap (accumulated turn a i) (drop_of_length-le xs h)
