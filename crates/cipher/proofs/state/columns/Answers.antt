use Rattle.std.proofs.Common.{◌∙◌, rules}
use Rattle.cipher.proofs.Schedules.{cut_bytes}
use Rattle.cipher.proofs.state.columns.Goals as goal

pub returns : goal.returns
returns c = let cut = c.as_chunks.ensures.front ∙ cut_bytes c.args.bytes.now c.told-bytes in search rules
