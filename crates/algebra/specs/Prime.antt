-- The integers modulo 251. Assumes nothing.
use Rattle.std.specs.Prelude.{ℕ, suc, ◌+◌, ◌-◌, ◌*◌, ◌%◌, ◌^◌, Bool, true, false, List, [], ◌∷◌, nat_lt}
use Rattle.std.proofs.Common.{mod-lt, lit<}
use Rattle.algebra.specs.Fields.{Ops}
use Rattle.algebra.specs.declared.elements.Mod251.{Mod251}

-- the element that a number stands for, modulo 251
abbrev pub at : ℕ → Mod251
at n = record { value = n % 251; ok = mod-lt n (lit< tt) }

-- the inverse of x is its power 249, by Fermat's theorem
abbrev pub prime : Ops Mod251
prime = record {
  zero = at 0;
  one = at 1;
  plus = λ x y. at (x.value + y.value);
  times = λ x y. at (x.value * y.value);
  negate = λ x. at (251 - x.value);
  inverse = λ x. at (x.value ^ 249);
  number = λ x. x.value;
  element = at;
  size = 251;
}

-- a byte that is taken, or one that is skipped
abbrev pub taken : Bool → ℕ → Mod251 × ℕ → Mod251 × ℕ
taken true b rest = (at b, 1)
taken false b rest = (rest.0, suc rest.1)

-- the first byte below 251, and zero where there is none; how many bytes were used
abbrev pub first_below : List ℕ → Mod251 × ℕ
first_below [] = (at 0, 0)
first_below (b ∷ bs) = taken (nat_lt b 251) b (first_below bs)
