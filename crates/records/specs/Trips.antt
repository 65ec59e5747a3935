-- Reading inverts writing, and writing inverts reading. Assumes nothing.
use Rattle.std.specs.Prelude.{◌≡◌, ℕ, ◌+◌, ◌<◌, true, List, length, None}
use Rattle.std.specs.List.{AllByRecursion}
use Rattle.algebra.specs.Fields.{Ops}
use Rattle.lock.specs.declared.profile.Codes.{Codes}
use Rattle.lock.specs.Profiles.{same_codes}
use Rattle.lock.specs.Locks.{Forms, within}
use Rattle.records.specs.Formats.{Byte}
use Rattle.records.specs.Publics.{PublicKey, Small, public_rows, public_value, public_bytes}
use Rattle.records.specs.Secrets.{secret_rows, secret_value, secret_bytes}

module _ {F : Type 0} (o : Ops F) where
  -- a key that has a public record under the codes c
  pub record Valid (l : Forms F) (c : Codes) (k : PublicKey F) : Type 0 where
    pub small : Small k.profile
    pub codes : same_codes k.profile.codes c ≡ true
    pub limits : within l k.profile ≡ true
    pub seed : length k.seed ≡ 16
    pub height : length k.y + k.profile.shape.k ≡ k.profile.shape.m

  -- the record of a key is taken and is read as that key; what is taken is the record of the key that it is read as
  pub record PublicTrip (l : Forms F) : Type 0 where
    pub taken : (c : Codes) (k : PublicKey F) → Valid l c k → public_rows o l c (public_bytes o k) ≡ None
    pub back : (c : Codes) (k : PublicKey F) → Valid l c k → public_value o (public_bytes o k) ≡ k
    pub forth : (c : Codes) (bs : List ℕ) → AllByRecursion Byte bs → public_rows o l c bs ≡ None → public_bytes o (public_value o bs) ≡ bs

  -- the same of the record of unknowns
  pub record SecretTrip : Type 0 where
    pub taken : (u : List F) → length u < 65535 → secret_rows o (length u) (secret_bytes o u) ≡ None
    pub back : (u : List F) → secret_value o (secret_bytes o u) ≡ u
    pub forth : (n : ℕ) (bs : List ℕ) → AllByRecursion Byte bs → secret_rows o n bs ≡ None → secret_bytes o (secret_value o bs) ≡ bs
