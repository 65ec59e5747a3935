-- Making a key pair: what a key is, what is written, and what is refused. Assumes nothing.
use Rattle.std.specs.Prelude.{◌≡◌, ℕ, ◌+◌, ◌-◌, ◌*◌, ◌<◌, ◌≤◌, true, ◌&&◌, List, [], ◌++◌, map, length, take, drop, replicate, None, vec_items, Option, Result, ◌==◌, nat_le}
use Rattle.refusal.specs.declared.Refusal.{Refusal}
use Rattle.refusal.specs.declared.Refusal.TheVariants.{Code, Element, ArgumentLength, OutputShort, NoSolution}
use Rattle.refusal.specs.declared.Refusal.TheVariants as refusals
use Rattle.refusal.specs.Rows.{row, first, Tells}
use Rattle.algebra.specs.Fields.{Ops}
use Rattle.expander.specs.Streams.{drawn, seed_stream}
use Rattle.lock.specs.declared.profile.Codes.{Codes}
use Rattle.lock.specs.declared.profile.Profile.{Profile}
use Rattle.lock.specs.declared.profile.Shape.{Shape}
use Rattle.lock.specs.Instances.{Problem, listed, product}
use Rattle.lock.specs.Locks.{Forms, within}
use Rattle.lock.specs.Profiles.{same_codes}
use Rattle.records.specs.Formats.{below, Puts}
use Rattle.records.specs.Publics.{PublicKey, height, public_rows, public_value, public_bytes}
use Rattle.records.specs.Secrets.{secret_rows, secret_value, secret_bytes}
use Rattle.keys.specs.declared.request.KeyRequest.{KeyRequest}
use Rattle.keys.specs.declared.sizes.KeySizes.{KeySizes}
use Rattle.keys.specs.declared.workspace.Workspace.{Workspace}

-- the codes of a field, a lock and an expander
abbrev pub coded : ℕ → ℕ → ℕ → Codes
coded f l e = record { field = f; lock = l; expander = e }

-- each code fits its byte
pub record SmallCodes (c : Codes) : Type 0 where
  pub field : c.field < 256
  pub lock : c.lock < 256
  pub expander : c.expander < 256

-- the sizes of the two records
abbrev pub key_sizes : {F : Type 0} → Forms F → Profile → KeySizes
key_sizes l p = record { public = 35 + height p; secret = 5 + l.unknowns p.shape }

-- no secret is left in working memory
pub record Clean {F : Type 0} (o : Ops F) (w : Workspace F) : Type 0 where
  pub word : vec_items w.word ≡ replicate 250 o.zero
  pub unknowns : vec_items w.unknowns ≡ replicate 256 o.zero

-- the rows that look at the profile, the bytes of x, the lengths and the room
abbrev pub admit_rows : {F : Type 0} → Ops F → Forms F → Codes → Profile → List ℕ → List ℕ → ℕ → Option Refusal
admit_rows o l c p seed x room =
    row (same_codes p.codes c) Code
    (row (within l p) refusals.Profile
    (row (below o.size x) Element
    (row (length seed == 16 && length x == p.shape.m) ArgumentLength
    (row (nat_le ((key_sizes l p).public + (key_sizes l p).secret) room) OutputShort None))))

-- what has passed them
pub record Admitted {F : Type 0} (l : Forms F) (p : Profile) (seed x : List ℕ) (room : ℕ) (s : KeySizes) : Type 0 where
  pub limits : within l p ≡ true
  pub seeded : length seed ≡ 16
  pub word : length x ≡ p.shape.m
  pub sizes : s ≡ key_sizes l p
  pub fits : s.public + s.secret ≤ room

module _ {F : Type 0} (sampled : List ℕ → F × ℕ) (block : List ℕ → List ℕ → ℕ → List ℕ) where
  -- the matrix of a seed is sampled from its stream under a zero salt, column after column
  unfoldable pub matrix_of : Shape → List ℕ → List F
  matrix_of s seed = drawn sampled (seed_stream block (replicate 16 0) seed) 0 (s.k * (s.m - s.k))

  -- what the lock of a public key is asked about
  abbrev pub problem_of : PublicKey F → Problem F
  problem_of k = record { shape = k.profile.shape; matrix = matrix_of k.profile.shape k.seed; target = k.y }

  module _ (o : Ops F) where
    -- y = H x
    abbrev pub target_of : Shape → List ℕ → List F → List F
    target_of s seed x = listed (product o (record { shape = s; matrix = matrix_of s seed; target = [] }) x) 0 (s.m - s.k)

    -- the target and the secret of a word x stand at the front of lent memory
    pub record Filled (l : Forms F) (s : Shape) (seed : List ℕ) (x : List F) (target unknowns : List F) : Type 0 where
      pub rows : take (s.m - s.k) target ≡ target_of s seed x
      pub secret : take (l.unknowns s) unknowns ≡ l.secret s x

    -- the public key of x
    abbrev pub key_for : Profile → List ℕ → List F → PublicKey F
    key_for p seed x = record { profile = p; seed = seed; y = target_of p.shape seed x }

    -- the rows of the table of refusals, in their order; x is given as bytes
    abbrev pub make_rows : Forms F → Codes → Profile → List ℕ → List ℕ → ℕ → Option Refusal
    make_rows l c p seed x room = first (admit_rows o l c p seed x room) (row (l.wanted p.shape (map o.element x)) NoSolution None)

    -- both records stand at the front of the output, public first, and the rest is as it was
    pub record Writes (l : Forms F) (p : Profile) (seed : List ℕ) (x : List F) (was now : List ℕ) (s : KeySizes) : Type 0 where
      pub sizes : s ≡ key_sizes l p
      pub records : Puts was 0 (public_bytes o (key_for p seed x) ++ secret_bytes o (l.secret p.shape x)) now

    -- what a call is answered that asks for a key pair, where `was` is the output before it and `now` after it
    abbrev pub Made : Forms F → Codes → KeyRequest → List ℕ → List ℕ → Result KeySizes Refusal → Type 0
    Made l c r was now =
        Tells (make_rows l c r.profile r.matrix_seed.now r.x.now (length was)) (λ s. Writes l r.profile r.matrix_seed.now (map o.element r.x.now) was now s)

    -- the two records at the front of the output are taken, and the secret solves the lock of the public one
    pub record ReadsBack (l : Forms F) (c : Codes) (out : List ℕ) (s : KeySizes) : Type 0 where
      pub public : public_rows o l c (take s.public out) ≡ None
      pub secret : secret_rows o (l.unknowns (public_value o (take s.public out)).profile.shape) (take s.secret (drop s.public out)) ≡ None
      pub solves : l.Solves (problem_of (public_value o (take s.public out))) (secret_value o (take s.secret (drop s.public out)))
