-- Writers, one call after another. Assumes nothing.
use Rattle.std.proofs.Common.{◌≡◌, ℕ, ◌+◌, ◌≤◌, List, ◌++◌, length, take, drop, sym, refl, ap, ◌∙◌, ap₂, arith}
use lib.Seq.{paste}
use Rattle.std.proofs.lemmas.List.Edits.{paste_all, paste-paste}
use Rattle.std.proofs.lemmas.List.{length-append}
use Rattle.records.specs.declared.writer.Writer.{Writer}
use Rattle.records.specs.Formats.{written, Puts}
use Rattle.records.specs.Writers.{Wrote}

-- two pieces written one after the other
pub written_join : (out a b : List ℕ) (at n : ℕ) → n ≡ at + length a → at ≤ length out → written (written out at a) n b ≡ written out at (a ++ b)
written_join out a b at n e h =
    let i = length a in
    let j = length b in
    ap₂ (λ (l : List ℕ) (k : ℕ). written l k b) (sym (paste_all out at a i refl)) e
    ∙ sym (paste_all (paste out at a i) (at + i) b j refl)
    ∙ paste-paste out at a b i j refl refl h
    ∙ paste_all out at (a ++ b) (i + j) (sym (length-append a b))
    ∙ ap (λ (k : ℕ). take at out ++ (a ++ b ++ drop (at + k) out)) (sym (length-append a b))

-- a second call goes on where the first one ended
pub wrote_more : {a b c : Writer} {x y : List ℕ} → Wrote a x b → Wrote b y c → a.at ≤ length a.out.now → Wrote a (x ++ y) c
wrote_more {a} {b} {c} {x} {y} p q h = record {
  lent = q.lent ∙ p.lent;
  long = q.long ∙ p.long;
  place = omega (arith, p.place, q.place, length-append x y);
  after = record { is = q.after.is ∙ ap (λ (l : List ℕ). written l b.at y) p.after.is ∙ written_join a.out.now x y a.at b.at p.place h };
}

-- what is written is equal
pub wrote_same : {a b : Writer} {x y : List ℕ} → x ≡ y → Wrote a x b → Wrote a y b
wrote_same {a} {b} {x} {y} e p = record {
  lent = p.lent;
  long = p.long;
  place = p.place ∙ ap (λ (l : List ℕ). a.at + length l) e;
  after = record { is = p.after.is ∙ ap (written a.out.now a.at) e };
}

-- what was written is what the lent bytes have from the writer's place on
pub wrote_on : {a b : Writer} {x was now : List ℕ} {at : ℕ} → Wrote a x b → a.out.now ≡ was → a.at ≡ at → now ≡ b.out.now → Puts was at x now
wrote_on {a} {b} {x} {was} {now} p e z f = record { is = f ∙ p.after.is ∙ ap₂ (λ (l : List ℕ) (k : ℕ). written l k x) e z }
