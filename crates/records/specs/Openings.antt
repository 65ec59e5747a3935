-- What every record begins with: a length of four bytes that counts all after itself, and the version 1. Assumes nothing.
use Rattle.std.specs.Prelude.{ℕ, ◌+◌, ◌*◌, ◌/◌, ◌%◌, ◌&&◌, List, [], ◌∷◌, ◌++◌, length, None, Option, ◌==◌, nat_le, slice_index}
use Rattle.refusal.specs.declared.Refusal.{Refusal}
use Rattle.refusal.specs.declared.Refusal.TheVariants.{RecordLength, Version}
use Rattle.refusal.specs.Rows.{row}

-- numbers in bytes, the highest first
abbrev pub two : ℕ → List ℕ
two n = (n / 256 % 256) ∷ (n % 256) ∷ []

abbrev pub four : ℕ → List ℕ
four n = (n / 16777216 % 256) ∷ (n / 65536 % 256) ∷ (n / 256 % 256) ∷ (n % 256) ∷ []

-- the number of two bytes from place i on
abbrev pub two_at : List ℕ → ℕ → ℕ
two_at bs i = slice_index bs i * 256 + slice_index bs (1 + i)

-- the number of the first four bytes
abbrev pub length_field : List ℕ → ℕ
length_field bs = slice_index bs 0 * 16777216 + slice_index bs 1 * 65536 + slice_index bs 2 * 256 + slice_index bs 3

-- a record whose rest is given
abbrev pub record_of : List ℕ → List ℕ
record_of rest = four (1 + length rest) ++ (1 ∷ rest)

-- there are five bytes, the length field is right and not below `least`; the version is 1
abbrev pub opening_rows : ℕ → List ℕ → Option Refusal
opening_rows least bs =
    row (nat_le 5 (length bs) && (length_field bs + 4 == length bs && nat_le least (length_field bs))) RecordLength
    (row (slice_index bs 4 == 1) Version None)
