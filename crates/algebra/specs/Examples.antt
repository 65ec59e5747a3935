-- Worked examples of the two fields. Assumes nothing.
use Rattle.std.specs.Prelude.{◌≡◌, ℕ, List, ◌∷◌}
use Rattle.algebra.specs.Binary as binary
use Rattle.algebra.specs.Prime as prime

-- 57 times 83 is c1, in hexadecimal
abbrev pub ProductExample : Type 0
ProductExample = (binary.binary).times (binary.at 0x57) (binary.at 0x83) ≡ binary.at 0xc1

-- the bytes 251, 255 and 7 are sampled to 7, with three of them used, whatever follows
abbrev pub SamplingExample : Type 0
SamplingExample = (rest : List ℕ) → prime.first_below (251 ∷ 255 ∷ 7 ∷ rest) ≡ (prime.at 7, 3)
