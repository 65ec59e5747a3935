-- A worked example of the weight lock, modulo 251. Assumes nothing.
use Rattle.std.specs.Prelude.{[], ◌∷◌}
use Rattle.algebra.specs.Prime.{at, prime}
use Rattle.algebra.specs.declared.elements.Mod251.{Mod251}
use Rattle.lock.specs.Instances.{Problem}
use Rattle.weight.specs.Weight.{weight}

-- m = 3, k = 1 and w = 1, with the column (2, 3) and the target (5, 0)
abbrev pub example : Problem Mod251
example = record { shape = record { m = 3; k = 1; w = 1 }; matrix = at 2 ∷ at 3 ∷ []; target = at 5 ∷ at 0 ∷ [] }

-- x is (0, 5, 0) where x_A is 0: Q = X - 1 solves the lock, and Q = X does not
pub record WeightExamples : Type 0 where
  pub solves : (weight prime).Solves example (at 0 ∷ at 250 ∷ [])
  pub fails : (weight prime).Solves example (at 0 ∷ at 0 ∷ []) → ⊥
