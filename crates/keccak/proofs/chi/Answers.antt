use Rattle.std.proofs.Common.{rules}
use Rattle.keccak.specs.Keccak.{chi_at, chi}
use Rattle.keccak.proofs.chi.Goals as goal

pub returns : goal.returns
unfolding chi
returns c = c.lanes.ensures (chi_at c.args.s.now) (λ i r within is. search rules)
