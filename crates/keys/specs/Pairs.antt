-- A public and a secret record that are read together. Assumes nothing.
use Rattle.std.specs.Prelude.{◌≡◌, ℕ, List, take, Option}
use Rattle.refusal.specs.declared.Refusal.{Refusal}
use Rattle.refusal.specs.Rows.{first}
use Rattle.algebra.specs.Fields.{Ops}
use Rattle.lock.specs.declared.profile.Codes.{Codes}
use Rattle.lock.specs.Locks.{Forms}
use Rattle.records.specs.declared.head.PublicHead.{PublicHead}
use Rattle.records.specs.Publics.{public_rows, public_value, Holds}
use Rattle.records.specs.Secrets.{secret_rows, secret_value}

module _ {F : Type 0} (o : Ops F) (l : Forms F) where
  -- how many unknowns the lock of a public record has
  abbrev pub unknowns_of : List ℕ → ℕ
  unknowns_of public = l.unknowns (public_value o public).profile.shape

  -- the rows of the public record, and then those of the secret one
  abbrev pub pair_rows : Codes → List ℕ → List ℕ → Option Refusal
  pair_rows c public secret = first (public_rows o l c public) (secret_rows o (unknowns_of public) secret)

  -- y and the unknowns stand at the front of lent memory
  pub record PairHeld (public secret : List ℕ) (h : PublicHead) (target unknowns : List F) : Type 0 where
    pub key : Holds l (public_value o public) h target
    pub secret_value_lem : take (unknowns_of public) unknowns ≡ secret_value o secret
