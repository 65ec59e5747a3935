use Rattle.algebra.specs.Gf256.{double, product_of, times, squares, inverse}
use Rattle.theory.proofs.Sweeps.{sweep}
use Rattle.cipher.specs.Sbox.{affine_bit, byte_of, affine, sbox}
use Rattle.cipher.proofs.sbox.table.Goals as goal

-- one test over the whole table, which antt computes
pub returns : goal.returns
unfolding double product_of times squares inverse affine_bit byte_of affine sbox
returns c = sweep 256 _ sbox tt
