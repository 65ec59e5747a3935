use Rattle.std.proofs.Common.{◌∙◌}
use Rattle.cipher.specs.Word.{double_word}
use Rattle.cipher.proofs.Numbers.{double-number, four_bytes}
use Rattle.cipher.proofs.word.double.Goals as goal

pub returns : goal.returns
unfolding double_word
returns c = c.to_le_bytes.ensures ∙ four_bytes _ _ (double-number c.args.a c.number-bytes.result c.number-bytes.ensures)
