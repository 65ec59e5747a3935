-- The public record: the values in it, its layout, and when it is refused. Assumes nothing.
use Rattle.std.specs.Prelude.{◌≡◌, ℕ, ◌+◌, ◌-◌, ◌<◌, true, List, ◌∷◌, ◌++◌, length, take, drop, None, Option, ◌==◌, slice_index}
use Rattle.refusal.specs.declared.Refusal.{Refusal}
use Rattle.refusal.specs.declared.Refusal.TheVariants.{Code, BodyLength, Element}
use Rattle.refusal.specs.declared.Refusal.TheVariants as refusals
use Rattle.refusal.specs.Rows.{row, first}
use Rattle.algebra.specs.Fields.{Ops}
use Rattle.lock.specs.declared.profile.Codes.{Codes}
use Rattle.lock.specs.declared.profile.Profile.{Profile}
use Rattle.lock.specs.Profiles.{same_codes}
use Rattle.lock.specs.Locks.{Forms, within}
use Rattle.records.specs.declared.head.PublicHead.{PublicHead}
use Rattle.records.specs.Formats.{Format, raw, elements, after, shaped}
use Rattle.records.specs.Openings.{two, two_at, record_of, opening_rows}

-- the codes, m, k, w, a, b, ρ and T
abbrev pub profile_bytes : Profile → List ℕ
profile_bytes p =
    p.codes.field ∷ p.codes.lock ∷ p.codes.expander
    ∷ (two p.shape.m ++ (two p.shape.k ++ (two p.shape.w ++ (p.a ∷ p.b ∷ p.rho ∷ two p.t))))

abbrev pub profile_value : List ℕ → Profile
profile_value bs = record {
  codes = record { field = slice_index bs 0; lock = slice_index bs 1; expander = slice_index bs 2 };
  shape = record { m = two_at bs 3; k = two_at bs 5; w = two_at bs 7 };
  a = slice_index bs 9;
  b = slice_index bs 10;
  rho = slice_index bs 11;
  t = two_at bs 12;
}

-- each number fits the bytes that it has
pub record Small (p : Profile) : Type 0 where
  pub field : p.codes.field < 256
  pub lock : p.codes.lock < 256
  pub expander : p.codes.expander < 256
  pub m : p.shape.m < 65536
  pub k : p.shape.k < 65536
  pub w : p.shape.w < 65536
  pub a : p.a < 256
  pub b : p.b < 256
  pub rho : p.rho < 256
  pub t : p.t < 65536

abbrev pub profile_format : Format Profile
profile_format = record { size = 14; fits = Small; bytes = profile_bytes; good = λ _. true; value = profile_value }

-- what a public record tells: the profile, the seed of the matrix, and y
pub record PublicKey (F : Type 0) : Type 0 where
  pub profile : Profile
  pub seed : List ℕ
  pub y : List F

-- how many elements y has
abbrev pub height : Profile → ℕ
height p = p.shape.m - p.shape.k

-- the codes are those in use, the numbers within their limits, and n bytes after the version as many as they should be
abbrev pub profile_rows : {F : Type 0} → Forms F → Codes → Profile → ℕ → Option Refusal
profile_rows l c p n =
    row (same_codes p.codes c) Code (row (within l p) refusals.Profile (row (n == 30 + height p) BodyLength None))

-- the profile of a record
abbrev pub profile_of : List ℕ → Profile
profile_of bs = profile_value (take 14 (drop 5 bs))

module _ {F : Type 0} where
  -- what a value that was read holds, its elements in lent memory
  abbrev pub key_of : PublicHead → List F → PublicKey F
  key_of h y = record { profile = h.profile; seed = h.matrix_seed; y = y }

  -- the value is this key, its elements at the front of what was lent, and its numbers are within their limits
  pub record Holds (l : Forms F) (k : PublicKey F) (h : PublicHead) (room : List F) : Type 0 where
    pub key : key_of h (take (height h.profile) room) ≡ k
    pub limits : within l h.profile ≡ true

  module _ (o : Ops F) where
    -- what stands after the version, where y has n elements
    abbrev pub body_format : ℕ → Format (PublicKey F)
    body_format n =
        shaped (λ v. record { profile = v.0; seed = v.1.0; y = v.1.1 }) (λ k. (k.profile, (k.seed, k.y)))
        (after profile_format (after (raw 16) (elements o n)))

    -- the value that a record is read as
    abbrev pub public_value : List ℕ → PublicKey F
    public_value bs = (body_format (height (profile_of bs))).value (drop 5 bs)

    -- the record of a value
    abbrev pub public_bytes : PublicKey F → List ℕ
    public_bytes k = record_of ((body_format (length k.y)).bytes k)

    -- the rows of the table of refusals, in their order
    abbrev pub public_rows : Forms F → Codes → List ℕ → Option Refusal
    public_rows l c bs =
        first (opening_rows 32 bs) (first (profile_rows l c (profile_of bs) (length (drop 5 bs)))
        (row ((body_format (height (profile_of bs))).good (drop 5 bs)) Element None))
