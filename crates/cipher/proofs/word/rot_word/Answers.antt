use Rattle.std.proofs.Common.{refl}
use Rattle.cipher.specs.Word.{rot_word}
use Rattle.cipher.proofs.word.rot_word.Goals as goal

pub returns : goal.returns
unfolding rot_word
returns c = refl
