use Rattle.std.proofs.Common.{◌∙◌}
use Rattle.keys.proofs.Targets.{target_is}
use Rattle.keys.proofs.filling.fill_target.Goals as goal

pub returns : goal.returns
returns g c =
    target_is g.met.F.Field.laws.ring c.args.shape c.args.matrix.now c.args.x.now c.split_at.result.0.now c.copy_from_slice.new.self
    c.add_columns.new.sums c.requires.ranged c.requires.word c.split_at.ensures.front (c.copy_from_slice.ensures.after ∙ c.split_at.ensures.back)
    (c.add_columns.auto.sums ∙ c.copy_from_slice.ensures.len ∙ c.requires.room) c.add_columns.ensures
