-- The limits of the numbers of a profile. Assumes nothing.
use Rattle.std.specs.Prelude.{ℕ, ◌*◌, ◌^◌, Bool, ◌&&◌, ◌==◌, nat_le, nat_lt}
use Rattle.lock.specs.declared.profile.Codes.{Codes}
use Rattle.lock.specs.declared.profile.Shape.{Shape}
use Rattle.lock.specs.declared.profile.Profile.{Profile}

-- m is 2 to 250, k 1 to m - 1, w 1 to m
abbrev pub ranged : Shape → Bool
ranged s = nat_le 2 s.m && (nat_le s.m 250 && (nat_le 1 s.k && (nat_lt s.k s.m && (nat_le 1 s.w && nat_le s.w s.m))))

-- τ, the number of rounds
abbrev pub rounds : Profile → ℕ
rounds p = 2 ^ p.b

-- a is 1 to 7, b 0 to 5, ρ 1 to 16, and T 1 to a τ
abbrev pub repeated : Profile → Bool
repeated p = nat_le 1 p.a && (nat_le p.a 7 && (nat_le p.b 5 && (nat_le 1 p.rho && (nat_le p.rho 16 && (nat_le 1 p.t && nat_le p.t (p.a * rounds p))))))

-- two codes for each of field, lock and expander agree
abbrev pub same_codes : Codes → Codes → Bool
same_codes c d = c.field == d.field && (c.lock == d.lock && c.expander == d.expander)
