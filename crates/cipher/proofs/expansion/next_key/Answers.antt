use Rattle.cipher.proofs.Schedules.{next_key}
use Rattle.cipher.proofs.expansion.next_key.Goals as goal

pub returns : goal.returns
returns c first r lt is power =
    next_key first r lt _ _ _ _ (rw (c.add.ensures, c.sub_word.ensures, c.rot_word.ensures, is, power) at c.add-a.ensures)
    (rw is at c.add-b.ensures) (rw is at c.add-c.ensures) (rw is at c.add-d.ensures)
