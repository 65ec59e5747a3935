-- Blocks with exactly one [1] and otherwise [0], by counts and by places. Assumes nothing.
use Rattle.std.specs.Prelude.{◌≡◌, ℕ, zero, suc, ◌+◌, ◌-◌, ◌*◌, ◌<◌, ◌≤◌, Bool, true, cond, List, [], ◌∷◌, length, take, drop, ◌==◌, ◌≢◌, refl}
use Rattle.std.proofs.Common.{sym, ap, subst, ◌∙◌, inl, inr, suc-mul, zero-mul, arith, rules, tests}
use Rattle.std.proofs.lemmas.Bool.Decides.{nat_tests}
use Rattle.std.proofs.lemmas.List.{length-take-le, length-drop, get_or-take, get_or-drop}
use Rattle.std.proofs.lemmas.List.Sums.{sum_by-cons}
use Rattle.std.proofs.lemmas.Bool.{cases_eq, eq-eqb, ne_eqb, and_parts, and_from}
use Rattle.algebra.specs.Fields.{Ops, Numbered}
use Rattle.algebra.proofs.Domains.{number_same, number_is-zero}
use Rattle.lock.specs.Instances.{item}
use Rattle.regular.specs.Regular.{OneHot, counted, hot, all_hot}

hit : (k n : ℕ) → k ≡ n → ◌≡◌ {A = ℕ} (cond (k == n) 1 0) 1
hit k n e = ap (λ (b : Bool). cond {A = ℕ} b 1 0) (eq-eqb k n e)

miss : (k n : ℕ) → (k ≢ n) → ◌≡◌ {A = ℕ} (cond (k == n) 1 0) 0
miss k n ne = ap (λ (b : Bool). cond {A = ℕ} b 1 0) (ne_eqb k n ne)

module _ {F : Type 0} (o : Ops F) where
  counted-cons : (n : ℕ) (x : F) (xs : List F) → counted o n (x ∷ xs) ≡ cond (o.number x == n) 1 0 + counted o n xs
  counted-cons n x xs = sum_by-cons (λ y. cond (o.number y == n) 1 0) x xs

  -- the members of a list stand at the places from i on
  abbrev pub Placed : (ℕ → F) → ℕ → List F → Type 0
  Placed f i xs = (t : ℕ) → t < length xs → f (i + t) ≡ item o xs t

  placed_rest : (f : ℕ → F) (i : ℕ) (x : F) (xs : List F) → Placed f i (x ∷ xs) → Placed f (suc i) xs
  placed_rest f i x xs e t h = let q : suc i + t ≡ i + suc t = omega arith in ap f q ∙ e (suc t) (omega arith)

  -- one [1] and otherwise [0], by counts
  pub record Counts (xs : List F) : Type 0 where
    pub ones : counted o 1 xs ≡ 1
    pub zeros : counted o 0 xs + 1 ≡ length xs

  pub hot_counts : (xs : List F) → hot o xs ≡ true → Counts xs
  hot_counts xs h = search (rules, tests)

  pub counts-hot : (xs : List F) → Counts xs → hot o xs ≡ true
  counts-hot xs c = let a = c.ones in let b = c.zeros in search (rules, tests)

  pub few : (xs : List F) → counted o 0 xs + counted o 1 xs ≤ length xs
  few [] = omega arith
  few (x ∷ xs) =
      let a = counted-cons 0 x xs in
      let b = counted-cons 1 x xs in
      let rest = few xs in
      grind (arith, nat_tests)

module _ {F : Type 0} {o : Ops F} (numbered : Numbered o) where
  zeros_placed : (xs : List F) → counted o 0 xs ≡ length xs → (t : ℕ) → t < length xs → item o xs t ≡ o.zero
  zeros_placed [] e t h = absurd (omega arith)
  zeros_placed (x ∷ xs) e t h =
      let a = counted-cons o 0 x xs in
      let most = few o xs in
      elim (cases_eq (o.number x) 0) [
        | inl z ↦ at t h (number_is-zero numbered x z) (zeros_placed xs (omega (arith, hit (o.number x) 0 z)))
        | inr ne ↦ absurd (omega (arith, miss (o.number x) 0 ne))
      ]
    where
      at : (t : ℕ) → t < length (x ∷ xs) → x ≡ o.zero → ((s : ℕ) → s < length xs → item o xs s ≡ o.zero) → item o (x ∷ xs) t ≡ o.zero
      at zero h z rest = z
      at (suc t) h z rest = rest t (omega arith)

  zeros-counted : (xs : List F) → ((t : ℕ) → t < length xs → item o xs t ≡ o.zero) → counted o 0 xs ≡ length xs
  zeros-counted [] f = refl
  zeros-counted (x ∷ xs) f =
      let z : o.number x ≡ 0 = ap o.number (f 0 (omega arith)) ∙ numbered.number-zero in
      let rest = zeros-counted xs (λ t h. f (suc t) (omega arith)) in
      omega (arith, counted-cons o 0 x xs, hit (o.number x) 0 z)

  -- ---- from counts to places

  counts_placed : (f : ℕ → F) (i : ℕ) (xs : List F) → Placed o f i xs → Counts o xs → OneHot o f i (length xs)
  counts_placed f i [] e c = let ones = c.ones in absurd (omega arith)
  counts_placed f i (x ∷ xs) e c =
      let ones = c.ones in
      let zeros = c.zeros in
      let a = counted-cons o 0 x xs in
      let b = counted-cons o 1 x xs in
      let most = few o xs in
      let q : i + 0 ≡ i = omega arith in
      let here : f i ≡ x = ap f (sym q) ∙ e 0 (omega arith) in
      let later : (r : ℕ) → suc i ≤ r → r < suc i + length xs → f r ≡ item o xs (r - suc i) =
      λ r lo hi. let s : r ≡ suc i + (r - suc i) = omega arith in ap f s ∙ placed_rest o f i x xs e (r - suc i) (omega arith) in
      elim (cases_eq (o.number x) 1) [
        | inl one ↦
            let nz = miss (o.number x) 0 (λ z. omega arith) in
            let all : counted o 0 xs ≡ length xs = omega arith in (
              i,
              omega arith,
              omega arith,
              here ∙ number_same numbered x o.one (one ∙ sym numbered.number-one),
              λ r lo hi ne.
                  later r (omega arith) (omega arith) ∙ zeros_placed xs all (r - suc i) (omega arith),
            )
        | inr not-one ↦
            elim (cases_eq (o.number x) 0) [
              | inl z ↦
                  let m1 = miss (o.number x) 1 not-one in
                  let m0 = hit (o.number x) 0 z in
                  let rest = counts_placed f (suc i) xs (placed_rest o f i x xs e) (record { ones = omega arith; zeros = omega arith }) in
                  let lo = rest.1 in
                  let hi = rest.2 in (
                    rest.0,
                    omega arith,
                    omega arith,
                    rest.3,
                    λ r a b ne.
                        elim (cases_eq i r) [
                          | inl s ↦ ap f (sym s) ∙ here ∙ number_is-zero numbered x z
                          | inr d ↦ rest.4 r (omega arith) (omega arith) ne
                        ],
                  )
              | inr nz ↦ absurd (omega (arith, miss (o.number x) 1 not-one, miss (o.number x) 0 nz))
            ]
      ]

  -- ---- and back

  placed_counts : (f : ℕ → F) (i : ℕ) (xs : List F) → Placed o f i xs → OneHot o f i (length xs) → Counts o xs
  placed_counts f i [] e (t, lo, hi, one, others) = absurd (omega arith)
  placed_counts f i (x ∷ xs) e (t, lo, hi, one, others) =
      let a = counted-cons o 0 x xs in
      let b = counted-cons o 1 x xs in
      let most = few o xs in
      let q : i + 0 ≡ i = omega arith in
      let here : x ≡ f i = sym (ap f (sym q) ∙ e 0 (omega arith)) in
      elim (cases_eq i t) [
        | inl same ↦
            let n : o.number x ≡ 1 = ap o.number (here ∙ ap f same ∙ one) ∙ numbered.number-one in
            let all : counted o 0 xs ≡ length xs =
            zeros-counted xs (λ s h. sym (placed_rest o f i x xs e s h) ∙ others (suc i + s) (omega arith) (omega arith) (λ r. omega arith)) in
            let h1 = hit (o.number x) 1 n in
            let h0 = miss (o.number x) 0 (λ z. omega arith) in
            record { ones = omega arith; zeros = omega arith }
        | inr ne ↦
            let n : o.number x ≡ 0 = ap o.number (here ∙ others i (omega arith) (omega arith) ne) ∙ numbered.number-zero in
            let rest = placed_counts f (suc i) xs (placed_rest o f i x xs e)
            (t, omega arith, omega arith, one, λ r l h d. others r (omega arith) (omega arith) d) in
            let ones = rest.ones in
            let zeros = rest.zeros in
            let h1 = miss (o.number x) 1 (λ z. omega arith) in
            let h0 = hit (o.number x) 0 n in
            record { ones = omega arith; zeros = omega arith }
      ]

  -- ---- all blocks

  placed_front : (f : ℕ → F) (i n : ℕ) (xs : List F) → n ≤ length xs → Placed o f i xs → Placed o f i (take n xs)
  placed_front f i n xs l e t h =
      let long = length-take-le n xs l in
      e t (omega arith) ∙ sym (get_or-take n xs t o.zero (omega arith))

  placed_back : (f : ℕ → F) (i n : ℕ) (xs : List F) → n ≤ length xs → Placed o f i xs → Placed o f (i + n) (drop n xs)
  placed_back f i n xs l e t h =
      let long = length-drop n xs in
      let q : i + n + t ≡ i + (n + t) = omega arith in
      ap f q ∙ e (n + t) (omega arith) ∙ sym (get_or-drop n xs t o.zero)

  pub all_placed : (f : ℕ → F) (i n c : ℕ) (xs : List F) → c * n ≤ length xs → Placed o f i xs → all_hot o n c xs ≡ true
      → (b : ℕ) → b < c → OneHot o f (i + b * n) n
  all_placed f i n zero xs l e h b lt = absurd (omega arith)
  all_placed f i n (suc c) xs l e h b lt =
      let le : n + c * n ≤ length xs = omega (arith, suc-mul c n) in
      let parts = and_parts (hot o (take n xs)) _ h in
      let long = length-take-le n xs (omega arith) in
      let here : OneHot o f i n =
      subst (λ (k : ℕ). OneHot o f i k) long
      (counts_placed f i (take n xs) (placed_front f i n xs (omega arith) e) (hot_counts o (take n xs) parts.0)) in
      at b lt here
      (all_placed f (i + n) n c (drop n xs) (omega (arith, length-drop n xs)) (placed_back f i n xs (omega arith) e) parts.1)
    where
      at : (b : ℕ) → b < suc c → OneHot o f i n → ((a : ℕ) → a < c → OneHot o f (i + n + a * n) n) → OneHot o f (i + b * n) n
      at zero lt here rest = subst (λ (j : ℕ). OneHot o f j n) (omega (arith, zero-mul n)) here
      at (suc b) lt here rest = subst (λ (j : ℕ). OneHot o f j n) (omega (arith, suc-mul b n)) (rest b (omega arith))

  pub placed_all : (f : ℕ → F) (i n c : ℕ) (xs : List F) → c * n ≤ length xs → Placed o f i xs
      → ((b : ℕ) → b < c → OneHot o f (i + b * n) n) → all_hot o n c xs ≡ true
  placed_all f i n zero xs l e h = refl
  placed_all f i n (suc c) xs l e h =
      let le : n + c * n ≤ length xs = omega (arith, suc-mul c n) in
      let long = length-take-le n xs (omega arith) in
      and_from (hot o (take n xs)) (all_hot o n c (drop n xs))
      (counts-hot o (take n xs)
      (placed_counts f i (take n xs) (placed_front f i n xs (omega arith) e)
      (subst (λ (k : ℕ). OneHot o f i k) (sym long) (subst (λ (j : ℕ). OneHot o f j n) (omega (arith, zero-mul n)) (h 0 (omega arith))))))
      (placed_all f (i + n) n c (drop n xs) (omega (arith, length-drop n xs)) (placed_back f i n xs (omega arith) e)
      (λ b lt. subst (λ (j : ℕ). OneHot o f j n) (omega (arith, suc-mul b n)) (h (suc b) (omega arith))))
