-- The secret record: the unknowns u. Assumes nothing.
use Rattle.std.specs.Prelude.{ℕ, List, length, drop, None, Option, ◌==◌}
use Rattle.refusal.specs.declared.Refusal.{Refusal}
use Rattle.refusal.specs.declared.Refusal.TheVariants.{BodyLength, Element}
use Rattle.refusal.specs.Rows.{row, first}
use Rattle.algebra.specs.Fields.{Ops}
use Rattle.records.specs.Formats.{elements}
use Rattle.records.specs.Openings.{record_of, opening_rows}

module _ {F : Type 0} (o : Ops F) where
  -- the unknowns that a record is read as
  abbrev pub secret_value : List ℕ → List F
  secret_value bs = (elements o (length (drop 5 bs))).value (drop 5 bs)

  -- the record of unknowns
  abbrev pub secret_bytes : List F → List ℕ
  secret_bytes u = record_of ((elements o (length u)).bytes u)

  -- the rows of the table of refusals for a record of n unknowns, in their order
  abbrev pub secret_rows : ℕ → List ℕ → Option Refusal
  secret_rows n bs =
      first (opening_rows 0 bs) (row (length (drop 5 bs) == n) BodyLength (row ((elements o n).good (drop 5 bs)) Element None))
