use Rattle.theory.proofs.Endians.{endian-inverse}
use Rattle.theory.proofs.endian_inverse.Goals as goal

pub returns : goal.returns
returns c = endian-inverse
