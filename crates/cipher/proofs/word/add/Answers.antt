use Rattle.std.proofs.Common.{get_or, rules}
use Rattle.cipher.specs.Word.{◌⊕◌, add_words}
use Rattle.cipher.proofs.Arrays.{made}
use Rattle.cipher.proofs.word.add.Goals as goal

pub returns : goal.returns
unfolding add_words
returns c = made _ (λ k. get_or c.args.a k 0 ⊕ get_or c.args.b k 0) 0 _ _ 4 (λ i y q lt call. search rules) c.from_fn.ensures.items
