use Rattle.regular.proofs.Views.{values_listed}
use Rattle.regular.proofs.regular.RegularLock.values.Goals as goal

pub returns : goal.returns
returns g c = values_listed g.F.Field.ops c.args.sound.now.shape _ _ _ _ _ c.side.ensures c.of-level.ensures.value c.fill_blocks.ensures
