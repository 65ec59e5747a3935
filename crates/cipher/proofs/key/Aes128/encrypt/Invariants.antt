use Rattle.std.proofs.Common.{◌≡◌}
use Rattle.cipher.specs.Cipher.{rounds}
use Rattle.cipher.proofs.key.Aes128.encrypt.Given as goal

abbrev pub invariant-loop-key : goal.invariant-loop-key
invariant-loop-key l = l.s ≡ rounds l.self.words l.key-index l.initial.s
