-- The field of 256 elements keeps the laws. Assumes nothing.
use Rattle.std.specs.Prelude.{◌≡◌, ℕ, ◌%◌, ◌<◌, List, [], ◌∷◌, take, bit_xor, slice_index, refl}
use Rattle.std.proofs.Common.{sym, ap, ap₂, subst, ◌∙◌, mod-eq_of_lt, lit≤}
use Rattle.std.proofs.Math.Bridge.{le_prop}
use Rattle.std.proofs.lemmas.Nat.{xor_comm}
use Rattle.std.specs.Int.Bits.{xor_assoc, xor_self, xor_zero_r}
use Rattle.algebra.specs.Fields.{Laws, Reads}
use Rattle.algebra.specs.Gf256.{times, inverse, squares, product_of, double}
use Rattle.algebra.specs.Binary.{at, binary, first}
use Rattle.algebra.specs.declared.elements.Gf256.{Gf256}
use Rattle.algebra.specs.Products.{xor_lt256, times_lt, times-one, times_linear, times_comm, times_assoc, times-inverse, inverse_lt}

-- an element is its number
pub same : (x y : Gf256) → x.value ≡ y.value → x ≡ y
same x y e =
    let made : (n : ℕ) → n < 256 → Gf256 = λ n h. record { value = n; ok = h } in
    subst (λ (n : ℕ). (h : n < 256) → x ≡ made n h) e (λ h. ap (made x.value) (le_prop x.ok h)) y.ok

-- the element that a byte stands for
pub is_at : (x : Gf256) (n : ℕ) → n < 256 → x.value ≡ n → x ≡ at n
is_at x n h e = same x (at n) (e ∙ sym (mod-eq_of_lt h))

sum : (x y : Gf256) → bit_xor x.value y.value % 256 ≡ bit_xor x.value y.value
sum x y = mod-eq_of_lt (xor_lt256 x.value y.value x.ok y.ok)

product : (x y : Gf256) → times x.value y.value % 256 ≡ times x.value y.value
product x y = mod-eq_of_lt (times_lt x.value y.value y.ok)

back : (x : Gf256) (n : ℕ) → n ≡ x.value → at n ≡ x
back x n e = same (at n) x (ap (λ (k : ℕ). k % 256) e ∙ mod-eq_of_lt x.ok)

inverse_of-zero : inverse 0 ≡ 0
unfolding inverse squares times product_of double
inverse_of-zero = refl

pub binary_laws : Laws binary
binary_laws = record {
  ring = record {
    plus_comm = λ x y. ap at (xor_comm x.value y.value);
    plus_assoc = λ x y z.
        ap at (ap (λ (n : ℕ). bit_xor n z.value) (sum x y) ∙ xor_assoc x.value y.value z.value ∙ sym (ap (bit_xor x.value) (sum y z)));
    plus-zero = λ x. back x _ (xor_zero_r x.value);
    plus-negate = λ x. ap at (xor_self x.value);
    times_comm = λ x y. ap at (times_comm x.value y.value x.ok y.ok);
    times_assoc = λ x y z.
        ap at
        (ap (λ (n : ℕ). times n z.value) (product x y)
        ∙ times_assoc x.value y.value z.value x.ok y.ok z.ok
        ∙ sym (ap (times x.value) (product y z)));
    times-one = λ x. back x _ (times-one x.value x.ok);
    distrib = λ x y z.
        ap at
        (ap (times x.value) (sum y z)
        ∙ times_linear x.value y.value z.value y.ok z.ok
        ∙ sym (ap₂ bit_xor (product x y) (product x z)));
  };
  times-inverse = λ x ne.
      ap at
      (ap (times x.value) (mod-eq_of_lt (inverse_lt x.value x.ok))
      ∙ times-inverse x.value x.ok (λ e. ne (same x (at 0) e)));
  inverse-zero = ap at inverse_of-zero;
  numbered = record {
    number-below = λ x. x.ok;
    number_element = λ n h. mod-eq_of_lt h;
    element-number = λ x. back x _ refl;
    number-zero = refl;
    number-one = refl;
  };
  size_low = lit≤ tt;
  size_high = lit≤ tt;
}

first_same : (bs cs : List ℕ) → take 1 bs ≡ take 1 cs → slice_index bs 0 ≡ slice_index cs 0
first_same [] [] e = refl
first_same [] (c ∷ cs) e = ap (λ (l : List ℕ). slice_index l 0) e
first_same (b ∷ bs) [] e = ap (λ (l : List ℕ). slice_index l 0) e
first_same (b ∷ bs) (c ∷ cs) e = ap (λ (l : List ℕ). slice_index l 0) e

pub binary_reads : Reads first
binary_reads = record {
  some = λ bs l. lit≤ tt;
  most = λ bs l. lit≤ tt;
  only = λ bs cs l m e. ap (λ (n : ℕ). (at n, 1)) (first_same bs cs e);
}
