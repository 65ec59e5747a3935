-- A fact of each number below a bound, from one test that antt computes. Assumes nothing.
use Rattle.std.proofs.Common.{ℕ, zero, suc, ◌<◌, Bool, true, false, T, eqb, sym, subst, inl, inr, not-suc-le-zero, arith, eqb→eq}
use Rattle.std.proofs.lemmas.Bool.{cases_eq}
use Rattle.theory.specs.Sweep.{both, upto}
use Rattle.theory.specs.Statements.{RuleAtEachEntry}

both_left : (a b : Bool) → T (both a b) → T a
both_left true b t = tt
both_left false b t = t

both_right : (a b : Bool) → T (both a b) → T b
both_right true b t = t
both_right false b t = absurd t

pub upto_at : (n : ℕ) (test : ℕ → Bool) → T (upto n test) → (k : ℕ) → k < n → T (test k)
upto_at zero test t k h = absurd (not-suc-le-zero h)
upto_at (suc n) test t k h =
    elim (cases_eq k n) [
      | inl e ↦ subst (λ (m : ℕ). T (test m)) (sym e) (both_left (test n) (upto n test) t)
      | inr apart ↦ upto_at n test (both_right (test n) (upto n test) t) k (omega arith)
    ]

pub sweep : RuleAtEachEntry
sweep n table rule t k h = eqb→eq (table k) (rule k) (upto_at n (λ j. eqb (table j) (rule j)) t k h)
