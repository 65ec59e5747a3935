use Rattle.std.proofs.Common.{◌≡◌, length, sym, ap, ◌∙◌}
use Rattle.cipher.specs.Expansion.{bytes_of, schedule_of}
use Rattle.cipher.specs.Keyed.{key_of}
use Rattle.cipher.proofs.Schedules.{length_schedule, bytes_schedule}
use Rattle.cipher.proofs.key.Aes128.new.Goals as goal

pub invariant_of-result : goal.invariant_of-result
invariant_of-result c =
    let key = c.args.key.now in
    let same = c.expand-words.ensures in
    let back : bytes_of c.expand-words.result ≡ key = ap bytes_of same ∙ bytes_schedule key c.told-key in
    record { full = ap length same ∙ length_schedule key; expanded = same ∙ sym (ap schedule_of back) }

pub returns : goal.returns
unfolding key_of
returns c = ap bytes_of c.expand-words.ensures ∙ bytes_schedule c.args.key.now c.told-key
