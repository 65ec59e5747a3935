use Rattle.std.proofs.Common.{ℕ, List, [], ◌++◌, sym, ap, ◌∙◌, append-nil, append_assoc}
use Rattle.hashes.specs.Hashes.{stream_of}
use Rattle.theory.specs.Endian.{big_endian}
use Rattle.expander.specs.Blocks.{shake_block}
use Rattle.expander.specs.Expansions.{big_eight}
use Rattle.expander.proofs.Windows.{window_tagged, tagged_source}
use Rattle.expander.proofs.shake.ShakeExpanderExpander.block.Goals as goal

pub returns : goal.returns
unfolding shake_block
returns c =
    let self = c.args.self.now in
    let number = c.to_be_bytes.result in
    (c.next_block.ensures _ 0 (tagged_source _ 0x09 _ 0 c.stream.ensures)).0
    ∙ sym (window_tagged 0x09 (self.salt ++ (self.seed ++ (number ++ []))) 0 16)
    ∙ ap (λ (m : List ℕ). stream_of 0x09 m 0 16)
    (ap (λ (b : List ℕ). self.salt ++ (self.seed ++ b)) (append-nil number ∙ c.to_be_bytes.ensures ∙ sym (big_eight c.args.number))
    ∙ sym (append_assoc self.salt self.seed (big_endian 8 c.args.number)))
