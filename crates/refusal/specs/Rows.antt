-- Tables of refusals: which row of one is the first that applies. Assumes nothing.
use Rattle.std.specs.Prelude.{◌≡◌, Bool, true, false, Some, None, Ok, Err, Option, Result}
use Rattle.refusal.specs.declared.Refusal.{Refusal}

-- one row: kept where the test passes, and the rows below say the rest; else refused with e
abbrev pub row : Bool → Refusal → Option Refusal → Option Refusal
row true e below = below
row false e below = Some e

-- one table, and below it another
abbrev pub first : Option Refusal → Option Refusal → Option Refusal
first (Some e) below = Some e
first None below = below

-- what a call answers whose table says `why`: a value as told where no row applies, and else the refusal
abbrev pub Tells : {T : Type 0} → Option Refusal → (T → Type 0) → Result T Refusal → Type 0
Tells why What (Ok x) = (why ≡ None) × What x
Tells why What (Err e) = why ≡ Some e
