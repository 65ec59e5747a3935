use Rattle.std.proofs.Common.{◌/◌, ◌%◌, [], get_or, rules}
use Rattle.cipher.specs.Expansion.{bytes_of}
use Rattle.cipher.proofs.Arrays.{made}
use Rattle.cipher.proofs.state.bytes.Goals as goal

pub returns : goal.returns
unfolding bytes_of
returns c = made _ (λ i. get_or (get_or c.args.s.now (i / 4) []) (i % 4) 0) 0 _ _ 16 (λ i y q lt call. search rules) c.from_fn.ensures.items
