-- The field of 256 elements. Assumes nothing.
use Rattle.std.specs.Prelude.{ℕ, ◌%◌, List, bit_xor, slice_index}
use Rattle.std.proofs.Common.{mod-lt, lit<}
use Rattle.algebra.specs.Fields.{Ops}
use Rattle.algebra.specs.Gf256 as bytes
use Rattle.algebra.specs.declared.elements.Gf256.{Gf256}

-- the element that a number stands for, modulo 256
abbrev pub at : ℕ → Gf256
at n = record { value = n % 256; ok = mod-lt n (lit< tt) }

-- sums are exclusive or, and products those of polynomials
abbrev pub binary : Ops Gf256
binary = record {
  zero = at 0;
  one = at 1;
  plus = λ x y. at (bit_xor x.value y.value);
  times = λ x y. at (bytes.times x.value y.value);
  negate = λ x. x;
  inverse = λ x. at (bytes.inverse x.value);
  number = λ x. x.value;
  element = at;
  size = 256;
}

-- every byte is an element
abbrev pub first : List ℕ → Gf256 × ℕ
first bs = (at (slice_index bs 0), 1)
