use Rattle.std.proofs.Common.{ap, ◌∙◌}
use Rattle.cipher.specs.Cipher.{encrypted}
use Rattle.cipher.specs.Keyed.{key_of}
use Rattle.expander.specs.Blocks.{aes_block}
use Rattle.expander.proofs.aes.AesExpanderExpander.block.Goals as goal

pub returns : goal.returns
unfolding aes_block
returns c = c.encrypt.ensures ∙ ap (encrypted (key_of c.args.self.now.cipher)) c.masked.ensures
