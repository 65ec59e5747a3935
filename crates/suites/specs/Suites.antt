-- Fields, locks and expanders by their codes. Assumes nothing.
use Rattle.std.specs.Prelude.{◌≡◌, ℕ, true, false, List, IfOk, Ok, Err, Result}
use Rattle.refusal.specs.declared.Refusal.{Refusal}
use Rattle.refusal.specs.declared.Refusal.TheVariants.{Code}
use Rattle.algebra.specs.Fields.{Ops}
use Rattle.algebra.specs.declared.elements.Gf256.{Gf256}
use Rattle.algebra.specs.declared.elements.Mod251.{Mod251}
use Rattle.algebra.specs.Binary.{binary, first}
use Rattle.algebra.specs.Prime.{prime, first_below}
use Rattle.expander.specs.Blocks.{aes_block, shake_block}
use Rattle.lock.specs.declared.profile.Codes.{Codes}
use Rattle.lock.specs.Locks.{Forms, within}
use Rattle.records.specs.declared.head.PublicHead.{PublicHead}
use Rattle.records.specs.Publics.{PublicKey}
use Rattle.keys.specs.declared.request.KeyRequest.{KeyRequest}
use Rattle.keys.specs.declared.sizes.KeySizes.{KeySizes}
use Rattle.keys.specs.Making.{Made, ReadsBack}
use Rattle.regular.specs.Regular.{regular}
use Rattle.weight.specs.Weight.{weight}
use Rattle.suites.specs.Kinds.{known}
use Rattle.suites.specs.declared.failure.Failure.{Failure}
use Rattle.suites.specs.declared.failure.Failure.TheVariants.{Refused, NoMemory}

-- what is said of a field and how it is sampled, of a lock over it, and of an expander
abbrev pub Said : Type 1
Said = (F : Type 0) → Ops F → (List ℕ → F × ℕ) → Forms F → (List ℕ → List ℕ → ℕ → List ℕ) → Type 0

-- it is said of the expander with this code
abbrev pub OverExpander : ℕ → ((List ℕ → List ℕ → ℕ → List ℕ) → Type 0) → Type 0
OverExpander code P = (code ≡ 1 → P aes_block) × (code ≡ 2 → P shake_block)

-- it is said of the lock with this code
abbrev pub OverLock : {F : Type 0} → Ops F → ℕ → (Forms F → Type 0) → Type 0
OverLock o code P = (code ≡ 1 → P (weight o)) × (code ≡ 2 → P (regular o))

-- it is said of the field, the lock and the expander that the codes name
abbrev pub Over : Codes → Said → Type 0
Over c P =
    (c.field ≡ 1 → OverLock binary c.lock (λ l. OverExpander c.expander (P Gf256 binary first l)))
    × (c.field ≡ 2 → OverLock prime c.lock (λ l. OverExpander c.expander (P Mod251 prime first_below l)))

-- what a call answers whose own answer would be r, but for want of memory
abbrev pub But : {T : Type 0} → (Result T Refusal → Type 0) → Result T Failure → Type 0
But P (Ok x) = P (Ok x)
But P (Err (Refused e)) = P (Err e)
But P (Err NoMemory) = Unit {0}

-- what a call is answered that works over the field, the lock and the expander that the codes name: there as P says of what their own call
-- is answered, but for want of memory; codes that name none are refused
pub record Answered {T : Type 0} (c : Codes) (P : (F : Type 0) → Ops F → (List ℕ → F × ℕ) → Forms F → (List ℕ → List ℕ → ℕ → List ℕ) → Result T Refusal → Type 0) (r : Result T Failure) : Type 0 where
  pub over : Over c (λ F o sampled l block. But (P F o sampled l block) r)
  pub unknown : known c ≡ false → r ≡ Err (Refused Code)

module _ {F : Type 0} where
  -- what is told of a public record beside its elements
  pub record IsHead (l : Forms F) (k : PublicKey F) (h : PublicHead) : Type 0 where
    pub profile : h.profile ≡ k.profile
    pub seed : h.matrix_seed ≡ k.seed
    pub limits : within l h.profile ≡ true

  module _ (sampled : List ℕ → F × ℕ) (block : List ℕ → List ℕ → ℕ → List ℕ) (o : Ops F) (l : Forms F) where
    -- what a call is answered that asks for a key pair, and that what was written reads back
    pub record Makes (c : Codes) (asked : KeyRequest) (was now : List ℕ) (r : Result KeySizes Refusal) : Type 0 where
      pub made : Made sampled block o l c asked was now r
      pub reads : IfOk r (λ s. ReadsBack sampled block o l c now s)
