use Rattle.std.proofs.Common.{ℕ, List, ◌∙◌, ap, get_or, []}
use Rattle.cipher.specs.Word.{add_words}
use Rattle.cipher.specs.Cipher.{add_round_key}
use Rattle.cipher.proofs.Fours.{same}
use Rattle.cipher.proofs.state.add_round_key.Goals as goal

pub returns : goal.returns
unfolding add_round_key
returns c w r is =
    let at = λ (i : ℕ). ap (λ (k : List (List ℕ)). add_words (get_or c.args.s.now i []) (get_or k i [])) is in
    same (c.add.ensures ∙ at 0) (c.add-2.ensures ∙ at 1) (c.add-3.ensures ∙ at 2) (c.add-4.ensures ∙ at 3)
