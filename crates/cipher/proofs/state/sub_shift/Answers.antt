use Rattle.cipher.specs.Word.{sub_word}
use Rattle.cipher.specs.Cipher.{sub_bytes, shift_rows}
use Rattle.cipher.proofs.Fours.{same}
use Rattle.cipher.proofs.state.sub_shift.Goals as goal

pub returns : goal.returns
unfolding sub_word sub_bytes shift_rows
returns c = same c.sub_word.ensures c.sub_word-2.ensures c.sub_word-3.ensures c.sub_word-4.ensures
