-- Lists by a function of the place. Assumes nothing.
use Rattle.std.proofs.Common.{◌≡◌, ℕ, zero, suc, ◌+◌, ◌<◌, List, [], ◌∷◌, length, get_or, refl, ap, ◌∙◌, ap₂, arith}
use Rattle.lock.specs.Instances.{listed}

module _ {X : Type 0} (f : ℕ → X) where
  pub length-listed : (i n : ℕ) → length (listed f i n) ≡ n
  length-listed i zero = refl
  length-listed i (suc n) = ap suc (length-listed (suc i) n)

  pub get_or-listed : (i n t : ℕ) (d : X) → t < n → get_or (listed f i n) t d ≡ f (i + t)
  get_or-listed i zero t d h = absurd (omega arith)
  get_or-listed i (suc n) zero d h = ap f (omega arith)
  get_or-listed i (suc n) (suc t) d h = get_or-listed (suc i) n t d (omega arith) ∙ ap f (omega arith)

  -- a list with the right element at each place
  pub is-listed : (i n : ℕ) (xs : List X) (d : X) → length xs ≡ n → ((t : ℕ) → t < n → get_or xs t d ≡ f (i + t)) → xs ≡ listed f i n
  is-listed i zero [] d l e = refl
  is-listed i zero (x ∷ xs) d l e = absurd (omega arith)
  is-listed i (suc n) [] d l e = absurd (omega arith)
  is-listed i (suc n) (x ∷ xs) d l e =
      let z : i + 0 ≡ i = omega arith in
      ap₂ (λ (a : X) (r : List X). a ∷ r) (e 0 (omega arith) ∙ ap f z)
      (is-listed (suc i) n xs d (omega arith) (λ t h. let q : i + suc t ≡ suc i + t = omega arith in e (suc t) (omega arith) ∙ ap f q))

  -- the same from place 0 on
  pub is-listed_all : (n : ℕ) (xs : List X) (d : X) → length xs ≡ n → ((t : ℕ) → t < n → get_or xs t d ≡ f t) → xs ≡ listed f 0 n
  is-listed_all n xs d l e = is-listed 0 n xs d l (λ t h. let z : t ≡ 0 + t = omega arith in e t h ∙ ap f z)

  -- the first i places hold what they should
  abbrev pub Below : X → ℕ → List X → Type 0
  Below d i xs = (r : ℕ) → r < i → get_or xs r d ≡ f r
