-- The blocks of the two expanders: their lengths, and numbers as the code writes them. Assumes nothing.
use Rattle.std.specs.Prelude.{◌≡◌, ℕ, ◌/◌, ◌%◌, ◌<◌, List, [], ◌∷◌, length, bit_xor, slice_index, refl}
use Rattle.std.proofs.Math.Nat.{div-div-eq-div-mul}
use Rattle.std.proofs.lemmas.List.FromFn.{fill_by_all}
use Rattle.cipher.specs.Cipher.{encrypted}
use Rattle.cipher.specs.Expansion.{bytes_of}
use Rattle.cipher.specs.Keyed.{key_of}
use Rattle.cipher.specs.declared.key.Aes128.{Aes128}
use Rattle.sponge.proofs.Outputs.{length-shake}
use Rattle.theory.specs.Endian.{little_endian, big_endian}
use Rattle.expander.specs.Blocks.{xored, aes_block, shake_block}

pub length-key : (a : Aes128) → length (key_of a) ≡ 16
unfolding key_of bytes_of
length-key a = refl

pub length_aes : (salt seed : List ℕ) (n : ℕ) → length (aes_block salt seed n) ≡ 16
unfolding aes_block encrypted bytes_of
length_aes salt seed n = refl

pub length-shake-block : (salt seed : List ℕ) (n : ℕ) → length (shake_block salt seed n) ≡ 16
unfolding shake_block
length-shake-block salt seed n = length-shake _ 0 16

pub little_sixteen : (v : ℕ) → little_endian 16 v ≡ (v % 256) ∷ (v / 256 % 256) ∷ (v / 65536 % 256) ∷ (v / 16777216 % 256) ∷ (v / 4294967296 % 256) ∷ (v / 1099511627776 % 256) ∷ (v / 281474976710656 % 256) ∷ (v / 72057594037927936 % 256) ∷ (v / 18446744073709551616 % 256) ∷ (v / 4722366482869645213696 % 256) ∷ (v / 1208925819614629174706176 % 256) ∷ (v / 309485009821345068724781056 % 256) ∷ (v / 79228162514264337593543950336 % 256) ∷ (v / 20282409603651670423947251286016 % 256) ∷ (v / 5192296858534827628530496329220096 % 256) ∷ (v / 1329227995784915872903807060280344576 % 256) ∷ []
little_sixteen v = simp div-div-eq-div-mul

pub big_eight : (v : ℕ) → big_endian 8 v ≡ (v / 72057594037927936 % 256) ∷ (v / 281474976710656 % 256) ∷ (v / 1099511627776 % 256) ∷ (v / 4294967296 % 256) ∷ (v / 16777216 % 256) ∷ (v / 65536 % 256) ∷ (v / 256 % 256) ∷ (v % 256) ∷ []
big_eight v = simp div-div-eq-div-mul

pub xored_is : (a b out : List ℕ) → length out ≡ 16 → ((k : ℕ) → k < 16 → slice_index out k ≡ bit_xor (slice_index a k) (slice_index b k)) → out ≡ xored a b
unfolding xored
xored_is a b out long at = fill_by_all (λ i. bit_xor (slice_index a i) (slice_index b i)) out 16 0 long at
