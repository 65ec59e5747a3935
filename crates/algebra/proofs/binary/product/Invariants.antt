use Rattle.std.proofs.Common.{◌≡◌, ◌-◌, ◌<◌}
use lib.Bits.{bit_xor}
use Rattle.algebra.specs.Gf256.{product_of}
use Rattle.algebra.proofs.binary.product.Given as goal

-- what is summed, and the product of the bits that are left
abbrev pub invariant-loop : goal.invariant-loop
invariant-loop l = (l.shifted < 256) × (product_of 8 l.a l.b ≡ bit_xor l.sum (product_of (8 - l.counter) l.bits l.shifted))
