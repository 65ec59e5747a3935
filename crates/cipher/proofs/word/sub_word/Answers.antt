use Rattle.std.proofs.Common.{rules}
use Rattle.cipher.specs.Sbox.{sbox}
use Rattle.cipher.specs.Word.{sub_word}
use Rattle.cipher.proofs.Arrays.{mapped}
use Rattle.cipher.proofs.word.sub_word.Goals as goal

pub returns : goal.returns
unfolding sub_word
returns c = mapped _ sbox 0 0 (λ p q x y call. search rules) c.map.ensures.items
