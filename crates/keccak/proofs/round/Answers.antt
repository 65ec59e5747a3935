use Rattle.keccak.specs.Keccak.{iota, round_of}
use Rattle.keccak.proofs.round.Goals as goal

pub returns : goal.returns
unfolding round_of iota
returns c r is = cc
