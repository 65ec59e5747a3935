use Rattle.std.proofs.Common.{◌≡◌, ℕ, ◌≤◌, [], length, get_or}
use Rattle.cipher.specs.Expansion.{schedule_of, round_key}
use Rattle.cipher.proofs.expansion.expand.Given as goal

abbrev pub invariant-loop-r : goal.invariant-loop-r
invariant-loop-r l = (length l.keys ≡ 11) × ((k : ℕ) → k ≤ l.r → get_or l.keys k [] ≡ round_key (schedule_of l.key) k)
