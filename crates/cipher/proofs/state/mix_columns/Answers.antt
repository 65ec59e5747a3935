use Rattle.std.proofs.Common.{[], rules}
use Rattle.cipher.specs.Word.{mix_column}
use Rattle.cipher.specs.Cipher.{mix_columns}
use Rattle.cipher.proofs.Arrays.{mapped_refs}
use Rattle.cipher.proofs.state.mix_columns.Goals as goal

pub returns : goal.returns
unfolding mix_columns
returns c =
    let all = c.map.ensures.items in
    mapped_refs _ mix_column [] [] all.each.1 (λ p q x y call. search rules) c.each_ref.ensures.items c.told-s all
