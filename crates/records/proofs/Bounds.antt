-- Bytes that are below a bound. Assumes nothing.
use Rattle.std.proofs.Common.{◌≡◌, ℕ, Bool, nat_lt, ◌&&◌, List, refl}
use Rattle.std.specs.List.{list_all}
use Rattle.std.proofs.lemmas.List.Recursion.{same_from_clauses}
use Rattle.records.specs.Formats.{below}

-- bytes are below q where each byte is
pub below_all : (q : ℕ) (bs : List ℕ) → below q bs ≡ list_all (λ b. nat_lt b q) bs
below_all q bs =
    same_from_clauses (below q) (list_all (λ b. nat_lt b q)) (λ (b : ℕ) (t : Bool). nat_lt b q && t) refl (λ _ _. refl) (λ _ _. refl) bs
