use Rattle.regular.proofs.Views.{crosses-listed}
use Rattle.regular.proofs.regular.RegularLock.crosses.Goals as goal

pub returns : goal.returns
returns g c =
    crosses-listed g.F.Field.ops c.args.sound.now.shape _ _ _ _ _ _ _ _ c.side.ensures c.of-one.ensures.value c.of-zero.ensures.value c.fill_blocks.ensures
