-- What a table of refusals tells of its tests. Assumes nothing.
use Rattle.std.proofs.Common.{◌≡◌, Bool, true, false, Some, None, Ok, Err, Option, Result, refl, ap, ◌∙◌}
use Rattle.refusal.specs.declared.Refusal.{Refusal}
use Rattle.refusal.specs.Rows.{row, first, Tells}

-- a row whose test fails, and one whose test passes
pub refuses : (t : Bool) (e : Refusal) (below : Option Refusal) → t ≡ false → row t e below ≡ Some e
refuses t e below h = ap (λ (b : Bool). row b e below) h

pub goes_on : (t : Bool) (e : Refusal) (below : Option Refusal) → t ≡ true → row t e below ≡ below
goes_on t e below h = ap (λ (b : Bool). row b e below) h

-- where a table refuses nothing, no part of it does
pub row_none : (t : Bool) (e : Refusal) (below : Option Refusal) → row t e below ≡ None → (t ≡ true) × (below ≡ None)
row_none true e below h = (refl, h)
row_none false e below h = (cc, cc)

pub first_none : (a b : Option Refusal) → first a b ≡ None → (a ≡ None) × (b ≡ None)
first_none (Some e) b h = (cc, cc)
first_none None b h = (refl, h)

pub first_goes : (a b w : Option Refusal) → a ≡ None → b ≡ w → first a b ≡ w
first_goes a b w h e = ap (λ (x : Option Refusal). first x b) h ∙ e

pub first_stops : (a b : Option Refusal) (e : Refusal) → a ≡ Some e → first a b ≡ Some e
first_stops a b e h = ap (λ (x : Option Refusal). first x b) h

-- a weaker promise of the value
pub tells_weaker : {T : Type 0} (why : Option Refusal) (P Q : T → Type 0) (r : Result T Refusal) → ((x : T) → P x → Q x) → Tells why P r → Tells why Q r
tells_weaker why P Q (Ok x) f (n, p) = (n, f x p)
tells_weaker why P Q (Err e) f t = t
