-- Lists of four. Assumes nothing.
use Rattle.std.proofs.Common.{◌≡◌, List, [], ◌∷◌}

-- two lists of four are equal if their members are
pub same : {X : Type 0} {a0 a1 a2 a3 b0 b1 b2 b3 : X} → a0 ≡ b0 → a1 ≡ b1 → a2 ≡ b2 → a3 ≡ b3
    → ◌≡◌ {A = List X} (a0 ∷ a1 ∷ a2 ∷ a3 ∷ []) (b0 ∷ b1 ∷ b2 ∷ b3 ∷ [])
same p q r s = cc
