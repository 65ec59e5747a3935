use Rattle.algebra.specs.Gf256.{double}
use Rattle.theory.proofs.Sweeps.{sweep}
use Rattle.cipher.specs.Expansion.{power_of_x}
use Rattle.cipher.proofs.expansion.powers.Goals as goal

-- one test over the whole table, which antt computes
pub returns : goal.returns
unfolding double power_of_x
returns c = sweep 10 _ power_of_x tt
