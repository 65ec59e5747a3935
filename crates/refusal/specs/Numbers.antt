-- The number of each refusal. Assumes nothing.
use Rattle.std.specs.Prelude.{◌≡◌, ℕ, ◌≢◌}
use Rattle.refusal.specs.declared.Refusal.{Refusal}
use Rattle.refusal.specs.declared.Refusal.TheVariants.{RecordLength, Version, Code, Profile, BodyLength, Element, ArgumentLength, SheetLength, SheetContent, TrayShort, OutputShort, NoSolution, AlreadyDone, NotYet, DrawsExhausted, Cover, Challenge, SpongeTurned}

abbrev pub number_of : Refusal → ℕ
number_of RecordLength = 1
number_of Version = 2
number_of Code = 3
number_of Profile = 4
number_of BodyLength = 5
number_of Element = 6
number_of ArgumentLength = 7
number_of SheetLength = 8
number_of SheetContent = 9
number_of TrayShort = 10
number_of OutputShort = 11
number_of NoSolution = 12
number_of AlreadyDone = 13
number_of NotYet = 14
number_of DrawsExhausted = 15
number_of Cover = 16
number_of Challenge = 17
number_of SpongeTurned = 18

-- no refusal has the number n
abbrev pub NoRefusal : ℕ → Type 0
NoRefusal n = (e : Refusal) → number_of e ≢ n

-- no two refusals have one number
abbrev pub NumbersDiffer : Type 0
NumbersDiffer = (e f : Refusal) → number_of e ≡ number_of f → e ≡ f
