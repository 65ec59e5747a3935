use Rattle.weight.proofs.Formed.{halves, crossings_are}
use Rattle.weight.proofs.equations.WeightLock.crosses.Goals as goal

pub returns : goal.returns
returns g c p u v shaped ones zeros =
    let o = g.F.Field.ops in
    let shape = c.args.sound.now.shape in
    crossings_are o p shape.m u v _ _ _ _ _ _ c.requires.room c.crossings.ensures
    (halves o p shape o.one u c.args.ones.now _ _ shaped ones c.of.ensures.word c.of.ensures.locators)
    (halves o p shape o.zero v c.args.zeros.now _ _ shaped zeros c.of-2.ensures.word c.of-2.ensures.locators)
