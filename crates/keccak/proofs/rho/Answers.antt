use Rattle.std.proofs.Common.{rules}
use Rattle.keccak.specs.Tables.{walk, offsets}
use Rattle.keccak.specs.Keccak.{rho_at, rho}
use Rattle.keccak.proofs.rho.Goals as goal

-- the table in the code is what the rule computes
pub returns : goal.returns
unfolding rho walk offsets
returns c = c.lanes.ensures (rho_at c.args.s.now) (λ i r within is. search rules)
