-- Tests over all numbers below a bound, which antt computes. Assumes nothing.
use Rattle.std.specs.Prelude.{ℕ, zero, suc, Bool, true, false, nat_eq}

abbrev pub both : Bool → Bool → Bool
both true b = b
both false b = false

-- the test holds at each number below n
abbrev pub upto : ℕ → (ℕ → Bool) → Bool
upto zero test = true
upto (suc n) test = both (test n) (upto n test)

-- two functions have the same value at each number below n
abbrev pub agree : ℕ → (ℕ → ℕ) → (ℕ → ℕ) → Bool
agree n f g = upto n (λ k. nat_eq (f k) (g k))
