-- What the limits of the regular lock say of its numbers. Assumes nothing.
use Rattle.std.specs.Prelude.{◌≡◌, ℕ, ◌+◌, ◌*◌, ◌/◌, ◌%◌, ◌≤◌, true, ◌==◌, nat_le, refl}
use Rattle.std.proofs.Common.{sym, subst, div-le_self, arith}
use Rattle.std.proofs.Math.Nat.{div-add-mod}
use Rattle.std.proofs.lemmas.Bool.{and_parts, leb-true, eqb-true}
use Rattle.algebra.specs.Fields.{Ops}
use Rattle.lock.specs.declared.profile.Shape.{Shape}
use Rattle.lock.specs.Locks.{sound}
use Rattle.lock.proofs.Ranges.{InRange, sounds}
use Rattle.regular.specs.Regular.{triangle, side, regular}

-- a block has n places, from 2 to 250, and the blocks are the whole word
pub record Sizes (s : Shape) (n : ℕ) : Type 0 where
  pub range : InRange s
  pub low : 2 ≤ n
  pub high : n ≤ 250
  pub even : s.w * n ≡ s.m
  pub count : s.w * (1 + triangle (side s)) ≡ s.w * (1 + triangle n)

pub sizes : {F : Type 0} (o : Ops F) (s : Shape) → sound (regular o) s ≡ true → Sizes s (side s)
sizes o s h =
    let k = sounds (regular o) s h in
    let r = k.range in
    let a = and_parts (nat_le 1 s.w) _ k.admitted in
    let b = and_parts (s.m % s.w == 0) _ a.1 in
    let rest : s.m % s.w ≡ 0 = eqb-true (s.m % s.w) 0 b.0 in
    let small : s.m / s.w ≤ s.m = div-le_self s.m s.w in
    let most = r.m_high in
    record {
      range = r;
      low = leb-true 2 (s.m / s.w) b.1;
      high = omega arith;
      even = omega (arith, div-add-mod s.m s.w);
      count = refl;
    }

-- the same of a number that was worked out
pub sizes_at : {F : Type 0} (o : Ops F) (s : Shape) (n : ℕ) → sound (regular o) s ≡ true → n ≡ side s → Sizes s n
sizes_at o s n h e = subst (λ (k : ℕ). Sizes s k) (sym e) (sizes o s h)
