use Rattle.std.proofs.Common.{refl}
use Rattle.keccak.specs.Keccak.{theta_at, theta, rho, pi, chi, iota, round_of, rounds, permuted}
use Rattle.sponge.specs.Shake.{byte_at, with_byte, mixed, ending, padded, blocks, closed, after, shake_byte, shake}
use Rattle.keccak.specs.Tables.{walk, offsets, shifted, register, constant_bit, constant_of, constants}
use Rattle.sponge.proofs.theorems.vectors_stand.Goals as goal

pub returns : goal.returns
unfolding theta_at theta rho pi chi iota round_of rounds permuted byte_at with_byte mixed ending padded blocks closed after shake_byte shake walk offsets shifted register constant_bit constant_of constants
returns c = record { empty = refl; long = refl; edge = refl; full = refl }
