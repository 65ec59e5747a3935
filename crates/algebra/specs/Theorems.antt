-- What holds over every field. Assumes nothing.
use Rattle.std.specs.Prelude.{◌≡◌, ℕ, ◌+◌, ◌*◌, ◌^◌, ◌<◌, ◌≤◌, List, ◌++◌, length, ◌≢◌, slice_index_or}
use Rattle.std.specs.List.{AllByRecursion}
use Rattle.theory.specs.Distinct.{Distinct}
use Rattle.algebra.specs.Fields.{Ops}
use Rattle.algebra.specs.Sums.{total, sum_from, dot_of, eval_of, combined}

module _ {F : Type 0} (o : Ops F) where
  -- sums split, a sum of products is symmetric, and it and the value of a polynomial are linear
  pub record SumsLinear : Type 0 where
    pub total-append : (xs ys : List F) → total o (xs ++ ys) ≡ o.plus (total o xs) (total o ys)
    pub sum_split : (f : ℕ → F) (i a b : ℕ) → sum_from o f i (a + b) ≡ o.plus (sum_from o f i a) (sum_from o f (i + a) b)
    pub dot_comm : (xs ys : List F) → dot_of o xs ys ≡ dot_of o ys xs
    pub dot_linear : (a : F) (us vs ws : List F) → length us ≡ length vs → dot_of o (combined o a us vs) ws ≡ o.plus (o.times a (dot_of o us ws)) (dot_of o vs ws)
    pub eval_linear : (a x : F) (us vs : List F) → length us ≡ length vs → eval_of o (combined o a us vs) x ≡ o.plus (o.times a (eval_of o us x)) (eval_of o vs x)

  -- a polynomial with at least as many different roots as coefficients, that is, more than its degree, is zero
  abbrev pub FewRoots : Type 0
  FewRoots = (cs xs : List F) → Distinct xs → AllByRecursion (λ x. eval_of o cs x ≡ o.zero) xs → length cs ≤ length xs → AllByRecursion (λ c. c ≡ o.zero) cs

  -- some coefficient is not zero
  abbrev pub Live : List F → Type 0
  Live cs = (i : ℕ) × (i < length cs) × (slice_index_or cs i o.zero ≢ o.zero)

  -- different lists that all meet one linear condition with a coefficient other than zero: at most one in `size` of all lists
  abbrev pub FewSolutions : Type 0
  FewSolutions = (cs : List F) (lists : List (List F)) → Live cs → Distinct lists
      → AllByRecursion (λ g. (length g ≡ length cs) × (dot_of o g cs ≡ o.zero)) lists
      → length lists * o.size ≤ o.size ^ length cs
