use Rattle.std.proofs.Common.{refl}
use Rattle.algebra.specs.Gf256.{double, product_of, times, squares, inverse}
use Rattle.cipher.specs.Sbox.{affine_bit, byte_of, affine, sbox}
use Rattle.cipher.specs.Word.{add_words, sub_word, rot_word, mix_column}
use Rattle.cipher.specs.Expansion.{words_of, bytes_of, power_of_x, rcon, expanded, schedule_of}
use Rattle.cipher.specs.Cipher.{sub_bytes, shift_rows, mix_columns, add_round_key, rounds, cipher, encrypted}
use Rattle.cipher.proofs.block_example.Goals as goal

pub returns : goal.returns
unfolding double product_of times squares inverse affine_bit byte_of affine sbox add_words sub_word rot_word mix_column words_of bytes_of power_of_x rcon expanded schedule_of sub_bytes shift_rows mix_columns add_round_key rounds cipher encrypted
returns c = refl
