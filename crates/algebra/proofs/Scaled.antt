-- Loops that change a list in place: a factor times each element added to the sum at its place, and zero at every place. Assumes nothing.
use Rattle.std.proofs.Common.{◌≡◌, ℕ, zero, suc, ◌+◌, ◌<◌, List, [], ◌∷◌, ◌++◌, length, get_or, take, drop, set, replicate, refl, ap, add-one, arith}
use Rattle.std.proofs.lemmas.List.{drop_more, append_assoc, set_at, length-replicate, replicate_more}
use Rattle.algebra.specs.Fields.{Ops}
use Rattle.algebra.specs.Sums.{combined}

-- one turn of a loop that writes one value at every place
pub cleared_more : {X : Type 0} (z : X) (was xs : List X) (i : ℕ) (v : X) → i < length was → v ≡ z
    → xs ≡ replicate i z ++ drop i was → set xs i v ≡ replicate (i + 1) z ++ drop (i + 1) was
cleared_more z was xs i v h e s =
    let split = drop_more was i z h in
    let put = set_at (replicate i z) (get_or was i z) (drop (i + 1) was) z i (length-replicate i z) in
    let joined = append_assoc (replicate i z) (z ∷ []) (drop (i + 1) was) in
    let longer = replicate_more i z in
    cc

module _ {F : Type 0} (o : Ops F) where
  pub length-combined : (a : F) (us vs : List F) → length us ≡ length vs → length (combined o a us vs) ≡ length vs
  length-combined a [] [] l = refl
  length-combined a [] (v ∷ vs) l = absurd (omega arith)
  length-combined a (u ∷ us) [] l = absurd (omega arith)
  length-combined a (u ∷ us) (v ∷ vs) l = ap suc (length-combined a us vs (omega arith))

  pub get_or-combined : (a : F) (us vs : List F) (i : ℕ) (d : F) → i < length vs → length us ≡ length vs
      → get_or (combined o a us vs) i d ≡ o.plus (o.times a (get_or us i d)) (get_or vs i d)
  get_or-combined a [] [] i d h l = absurd (omega arith)
  get_or-combined a [] (v ∷ vs) i d h l = absurd (omega arith)
  get_or-combined a (u ∷ us) [] i d h l = absurd (omega arith)
  get_or-combined a (u ∷ us) (v ∷ vs) zero d h l = refl
  get_or-combined a (u ∷ us) (v ∷ vs) (suc i) d h l = get_or-combined a us vs i d (omega arith) (omega arith)

  -- the sums of which the first i are done
  abbrev partly : F → List F → List F → ℕ → List F
  partly a us vs i = combined o a (take i us) (take i vs) ++ drop i vs

  partly_at : (a : F) (us vs : List F) (i : ℕ) (d : F) → i < length vs → length us ≡ length vs → get_or (partly a us vs i) i d ≡ get_or vs i d
  partly_at a [] [] i d h l = absurd (omega arith)
  partly_at a [] (v ∷ vs) i d h l = absurd (omega arith)
  partly_at a (u ∷ us) [] i d h l = absurd (omega arith)
  partly_at a (u ∷ us) (v ∷ vs) zero d h l = refl
  partly_at a (u ∷ us) (v ∷ vs) (suc i) d h l = partly_at a us vs i d (omega arith) (omega arith)

  partly_more : (a : F) (us vs : List F) (i : ℕ) (d e : F) → i < length vs → length us ≡ length vs
      → set (partly a us vs i) i (o.plus (o.times a (get_or us i d)) (get_or vs i e)) ≡ partly a us vs (suc i)
  partly_more a [] [] i d e h l = absurd (omega arith)
  partly_more a [] (v ∷ vs) i d e h l = absurd (omega arith)
  partly_more a (u ∷ us) [] i d e h l = absurd (omega arith)
  partly_more a (u ∷ us) (v ∷ vs) zero d e h l = refl
  partly_more a (u ∷ us) (v ∷ vs) (suc i) d e h l =
      ap (λ (t : List F). o.plus (o.times a u) v ∷ t) (partly_more a us vs i d e (omega arith) (omega arith))

  -- one turn of the loop
  pub scaled_more : (a : F) (us was sums : List F) (i : ℕ) (u d t new : F) → i < length was → length us ≡ length was
      → sums ≡ partly a us was i → u ≡ get_or us i u → t ≡ o.times a u → new ≡ o.plus t (get_or sums i d)
      → set sums i new ≡ partly a us was (i + 1)
  scaled_more a us was sums i u d t new h l s eu et en =
      let here = partly_at a us was i d h l in
      let more = partly_more a us was i u d h l in
      let next = add-one i in
      cc
