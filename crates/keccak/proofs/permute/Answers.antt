use Rattle.std.proofs.Common.{◌≡◌, refl, add-one, arith}
use Rattle.keccak.specs.Tables.{shifted, register, constant_bit, constant_of, constants}
use Rattle.keccak.specs.Keccak.{rounds, permuted}
use Rattle.keccak.proofs.permute.Goals as goal

pub loop-constant-init : goal.loop-constant-init
unfolding rounds
loop-constant-init c = refl

-- the table in the code is what the rule computes
pub loop-constant-preserved : goal.loop-constant-preserved
unfolding rounds shifted register constant_bit constant_of constants
loop-constant-preserved c = rw add-one (cc (c.round.ensures c.loop-constant.constant-index refl))

pub returns : goal.returns
unfolding permuted
returns c =
    let all : c.loop-constant.constant-index ≡ 24 = omega arith in
    cc
