-- Keys as values. Assumes nothing.
use Rattle.std.proofs.Common.{◌≡◌, ℕ, ◌+◌, List, ◌∷◌, ◌++◌, map, length, sym, ap, ◌∙◌, ap₂, arith}
use Rattle.std.proofs.lemmas.List.{length-append, length-map}
use Rattle.algebra.specs.Fields.{Ops}
use Rattle.lock.specs.declared.profile.Profile.{Profile}
use Rattle.records.specs.Openings.{four}
use Rattle.records.specs.Publics.{PublicKey, profile_bytes, public_bytes}
use Rattle.records.specs.Secrets.{secret_bytes}

-- a key with these parts
pub key_same : {F : Type 0} (k : PublicKey F) (p : Profile) (s : List ℕ) (y : List F) → p ≡ k.profile → s ≡ k.seed → y ≡ k.y
    → record { profile = p; seed = s; y = y } ≡ k
key_same {F} k p s y ep es ey =
    let made : Profile → List ℕ → List F → PublicKey F = λ p s y. record { profile = p; seed = s; y = y } in
    ap₂ (λ (p : Profile) (s : List ℕ). made p s y) ep es ∙ ap (made k.profile k.seed) ey

module _ {F : Type 0} (o : Ops F) where
  -- the bytes of a record, one part after another
  pub public-parts : (k : PublicKey F) (n : ℕ) → n ≡ 31 + length k.y → length k.seed ≡ 16
      → four n ++ (1 ∷ (profile_bytes k.profile ++ (k.seed ++ map o.number k.y))) ≡ public_bytes o k
  public-parts k n e l =
      let rest = k.seed ++ map o.number k.y in
      let long : length rest ≡ 16 + length k.y = length-append k.seed (map o.number k.y) ∙ omega (arith, length-map k.y o.number) in
      let size : n ≡ 1 + length (profile_bytes k.profile ++ rest) = omega arith in
      ap (λ (m : ℕ). four m ++ (1 ∷ (profile_bytes k.profile ++ rest))) size

  pub secret-parts : (u : List F) (n : ℕ) → n ≡ 1 + length u → four n ++ (1 ∷ map o.number u) ≡ secret_bytes o u
  secret-parts u n e = ap (λ (m : ℕ). four m ++ (1 ∷ map o.number u)) (e ∙ ap (λ (j : ℕ). 1 + j) (sym (length-map u o.number)))

  pub public_long : (k : PublicKey F) → length k.seed ≡ 16 → length (public_bytes o k) ≡ 35 + length k.y
  public_long k l =
      let rest = k.seed ++ map o.number k.y in
      let long : length rest ≡ 16 + length k.y = length-append k.seed (map o.number k.y) ∙ omega (arith, length-map k.y o.number) in
      omega arith

  pub secret_long : (u : List F) → length (secret_bytes o u) ≡ 5 + length u
  secret_long u = let long = length-map u o.number in omega arith
