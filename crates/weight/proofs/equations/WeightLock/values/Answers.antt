use Rattle.weight.proofs.Formed.{halves, products_are}
use Rattle.weight.proofs.equations.WeightLock.values.Goals as goal

pub returns : goal.returns
returns g c p s u shaped all =
    let o = g.F.Field.ops in
    let shape = c.args.sound.now.shape in
    products_are o p shape.m s u _ _ _ _ c.requires.room c.products.ensures
    (halves o p shape s u c.args.parts.now _ _ shaped all c.of.ensures.word c.of.ensures.locators)
