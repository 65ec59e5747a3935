use Rattle.std.proofs.Common.{refl, arith}
use Rattle.weight.specs.Places.{risen}
use Rattle.weight.proofs.Placed.{place_all}
use Rattle.weight.proofs.locator.horner_step.Goals as goal

pub returns : goal.returns
returns g c = place_all (risen g.F.Field.ops c.args.coefficient c.loop-j.j) _ c.loop-j.out c.loop-j.j refl (omega arith) c.loop-j.invariant
