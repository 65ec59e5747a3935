use Rattle.std.proofs.Common.{rules}
use Rattle.keccak.specs.Keccak.{pi_at, pi}
use Rattle.keccak.proofs.pi.Goals as goal

pub returns : goal.returns
unfolding pi
returns c = c.lanes.ensures (pi_at c.args.s.now) (λ i r within is. search rules)
