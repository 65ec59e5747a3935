-- A polynomial that grows by one root after another. Assumes nothing.
use Rattle.std.proofs.Common.{◌≡◌, ℕ, suc, ◌+◌, ◌-◌, ◌<◌, ◌≤◌, List, ◌∷◌, ◌++◌, length, take, drop, set, refl, ap, ◌∙◌, ap₂, arith}
use Rattle.std.proofs.lemmas.List.{set_split, drop_all}
use Rattle.algebra.specs.Fields.{Ops}
use Rattle.theory.specs.Loops.{accumulated}
use Rattle.weight.specs.Roots.{weight_of, stepped, times_root, rooted_at, rooted}
use Rattle.weight.proofs.Placed.{place_all}

module _ {F : Type 0} (o : Ops F) where
  -- the leading coefficient was put at the last place
  pub step_all : (a b one : F) (was cs : List F) (i : ℕ) → 0 < length was → one ≡ o.one → length cs ≤ i
      → take i cs ++ stepped o a b (drop i cs) ≡ stepped o a o.zero (set was (length was - 1) one) → cs ≡ times_root o a (take (length was - 1) was)
  step_all a b one was cs i some e h inv =
      let top = length was - 1 in
      let last : top < length was = omega arith in
      place_all (stepped o a b) _ cs i refl h inv
      ∙ ap (stepped o a o.zero)
      (set_split was top one last ∙ ap₂ (λ (t : F) (l : List F). take top was ++ (t ∷ l)) e (drop_all (suc top) was (omega arith)))

  -- the first coefficients are those of the places below i, and there is room for a root at each of the others
  pub record Growing (xs : List F) (i degree : ℕ) (cs : List F) : Type 0 where
    pub room : degree + weight_of o (drop i xs) ≡ length cs
    pub roots : accumulated (rooted_at o) (take degree cs) i (drop i xs) ≡ rooted o xs
