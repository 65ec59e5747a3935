-- The key that an Aes128 was made with. Assumes nothing.
use Rattle.std.specs.Prelude.{ℕ, List}
use Rattle.cipher.specs.Expansion.{bytes_of}
use Rattle.cipher.specs.declared.key.Aes128.{Aes128}

-- the first sixteen bytes of the schedule
unfoldable pub key_of : Aes128 → List ℕ
key_of a = bytes_of a.words
