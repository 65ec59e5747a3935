-- What the limits of a profile say of its numbers. Assumes nothing.
use Rattle.std.proofs.Common.{◌≡◌, ◌*◌, ◌<◌, ◌≤◌, true, rules, tests}
use Rattle.std.proofs.lemmas.Bool.{and_parts}
use Rattle.lock.specs.declared.profile.Shape.{Shape}
use Rattle.lock.specs.declared.profile.Profile.{Profile}
use Rattle.lock.specs.Profiles.{ranged, repeated, rounds}
use Rattle.lock.specs.Locks.{Forms, sound, within}

pub record InRange (s : Shape) : Type 0 where
  pub m_low : 2 ≤ s.m
  pub m_high : s.m ≤ 250
  pub k_low : 1 ≤ s.k
  pub k_high : s.k < s.m
  pub w_low : 1 ≤ s.w
  pub w_high : s.w ≤ s.m

pub ranges : (s : Shape) → ranged s ≡ true → InRange s
ranges s h = search (rules, tests)

pub record Sound {F : Type 0} (l : Forms F) (s : Shape) : Type 0 where
  pub in_range : ranged s ≡ true
  pub range : InRange s
  pub few : l.unknowns s ≤ 256
  pub admitted : l.admits s ≡ true

pub sounds : {F : Type 0} (l : Forms F) (s : Shape) → sound l s ≡ true → Sound l s
sounds l s h = search (rules, tests, ranges)

pub record Within {F : Type 0} (l : Forms F) (p : Profile) : Type 0 where
  pub shape : Sound l p.shape
  pub a_low : 1 ≤ p.a
  pub a_high : p.a ≤ 7
  pub b_high : p.b ≤ 5
  pub rho_low : 1 ≤ p.rho
  pub rho_high : p.rho ≤ 16
  pub t_low : 1 ≤ p.t
  pub t_high : p.t ≤ p.a * rounds p

pub withins : {F : Type 0} (l : Forms F) (p : Profile) → within l p ≡ true → Within l p
withins l p h =
    let z = and_parts (sound l p.shape) _ h in
    let shape = sounds l p.shape z.0 in
    let rest : repeated p ≡ true = z.1 in
    search (rules, tests)
