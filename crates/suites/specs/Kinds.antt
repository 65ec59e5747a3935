-- The codes of fields, locks and expanders. Assumes nothing.
use Rattle.std.specs.Prelude.{ℕ, Bool, ◌||◌, ◌&&◌, ◌==◌}
use Rattle.lock.specs.declared.profile.Codes.{Codes}
use Rattle.suites.specs.declared.kinds.FieldKind.{FieldKind}
use Rattle.suites.specs.declared.kinds.FieldKind.TheVariants.{Gf256, Mod251}
use Rattle.suites.specs.declared.kinds.LockKind.{LockKind}
use Rattle.suites.specs.declared.kinds.LockKind.TheVariants.{Weight, Regular}
use Rattle.suites.specs.declared.kinds.ExpanderKind.{ExpanderKind}
use Rattle.suites.specs.declared.kinds.ExpanderKind.TheVariants.{Aes, Shake}

-- there is a field, a lock or an expander with this code
abbrev pub named : ℕ → Bool
named code = code == 1 || code == 2

-- there are all three with these codes
abbrev pub known : Codes → Bool
known c = named c.field && (named c.lock && named c.expander)

abbrev pub field_code : FieldKind → ℕ
field_code Gf256 = 1
field_code Mod251 = 2

abbrev pub lock_code : LockKind → ℕ
lock_code Weight = 1
lock_code Regular = 2

abbrev pub expander_code : ExpanderKind → ℕ
expander_code Aes = 1
expander_code Shake = 2
