-- The theorems that other crates cite. Assumes nothing.
use Rattle.std.specs.Prelude.{◌≡◌, ℕ, ◌+◌, ◌^◌, ◌<◌, ◌≤◌, T, List, length, drop, slice_index_or, slice_set}
use Rattle.std.specs.List.{AllByRecursion}
use Rattle.theory.specs.Distinct.{Distinct}
use Rattle.theory.specs.Endian.{little_endian, big_endian, little_value, big_value}
use Rattle.theory.specs.Loops.{Filled, accumulated}
use Rattle.theory.specs.Sweep.{agree}

-- one computed test over a whole table gives its rule at each entry
abbrev pub RuleAtEachEntry : Type 0
RuleAtEachEntry = (n : ℕ) (table rule : ℕ → ℕ) → T (agree n table rule) → (k : ℕ) → k < n → table k ≡ rule k

-- different numbers below n are at most n
abbrev pub FewBelow : Type 0
FewBelow = (n : ℕ) (xs : List ℕ) → Distinct xs → AllByRecursion (λ x. x < n) xs → length xs ≤ n

-- one turn of a loop that writes f i at place i
abbrev pub FillsOneMore : Type 0 → Type 0
FillsOneMore X = (f : ℕ → X) (d : X) (n : ℕ) (out : List X) (i : ℕ) (v : X)
    → i < n → v ≡ f i → Filled f d n out i → Filled f d n (slice_set out i v) (i + 1)

-- one turn of a loop that carries a value from place to place
abbrev pub AccumulatesOneMore : Type 0 → Type 0 → Type 0
AccumulatesOneMore A X = (turn : A → ℕ → X → A) (a : A) (xs : List X) (i : ℕ) (x : X)
    → i < length xs → x ≡ slice_index_or xs i x → accumulated turn a i (drop i xs) ≡ accumulated turn (turn a i x) (i + 1) (drop (i + 1) xs)

-- a number that fits n bytes is what its bytes stand for, and bytes are those of the number that they stand for
pub record EndianInverse : Type 0 where
  pub little_value_lem : (n v : ℕ) → v < 256 ^ n → little_value (little_endian n v) ≡ v
  pub little_bytes : (bs : List ℕ) → AllByRecursion (λ b. b < 256) bs → little_endian (length bs) (little_value bs) ≡ bs
  pub big_value_lem : (n v : ℕ) → v < 256 ^ n → big_value (big_endian n v) ≡ v
  pub big_bytes : (bs : List ℕ) → AllByRecursion (λ b. b < 256) bs → big_endian (length bs) (big_value bs) ≡ bs
  pub little_bound : (bs : List ℕ) → AllByRecursion (λ b. b < 256) bs → little_value bs < 256 ^ length bs
