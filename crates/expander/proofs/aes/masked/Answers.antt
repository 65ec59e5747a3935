use Rattle.std.proofs.Common.{rules, ◌≡◌, ℕ, zero, suc, ◌+◌, ◌<◌, ◌≤◌, List, get_or, sym, ap, ◌∙◌, subst, inl, inr, arith}
use lib.Bits.{bit_xor}
use Rattle.std.specs.Fn.{Mut, Called}
use Rattle.std.specs.Array.{IsFromFnResultFrom}
use Rattle.std.proofs.lemmas.Bool.{cases_eq}
use Rattle.theory.specs.Endian.{little_endian}
use Rattle.expander.specs.Blocks.{xored}
use Rattle.expander.specs.Expansions.{little_sixteen, xored_is}
use Rattle.expander.proofs.aes.masked.Goals as goal

-- the members of an array made by a closure that answers h and stays as it is
from_fn_at : {F X : Type 0} {g : Mut F (ℕ × Unit {0}) X} {f : F} (xs : List X) (i n : ℕ) → IsFromFnResultFrom g f xs i n
    → (h : ℕ → X) → ((j : ℕ) (r : X) (q : F) → Called g f (j, tt) r q → (r ≡ h j) × (q ≡ f)) → (k : ℕ) (d : X) → i ≤ k → k < i + n → get_or xs k d ≡ h k
from_fn_at xs i zero calls h answers k d low high = absurd (omega arith)
from_fn_at {g = g} xs i (suc n) calls h answers k d low high =
    let first = answers i calls.1 calls.0 calls.3 in
    elim (cases_eq i k) [
      | inl same ↦ ap (λ j. get_or xs j d) (sym same) ∙ calls.2.1 d ∙ first.0 ∙ ap h same
      | inr apart ↦ from_fn_at xs (i + 1) n (subst (λ q. IsFromFnResultFrom g q xs (i + 1) n) first.1 calls.4) h answers k d (omega arith) (omega arith)
    ]

pub returns : goal.returns
returns c =
    let salt = c.args.salt.now in
    let bytes : c.to_le_bytes-bytes.result ≡ little_endian 16 c.args.number =
    c.to_le_bytes-bytes.ensures ∙ sym (little_sixteen c.from.result) ∙ ap (little_endian 16) c.from.ensures in
    let made = from_fn_at c.from_fn.result 0 16 c.from_fn.ensures.items.each
    (λ i. bit_xor (get_or salt i 0) (get_or c.to_le_bytes-bytes.result i 0)) (λ i r q call. (search rules, search rules)) in
    xored_is salt c.to_le_bytes-bytes.result c.from_fn.result c.from_fn.ensures.items.long (λ k lt. made k 0 (omega arith) lt) ∙ ap (xored salt) bytes
