use Rattle.records.proofs.Trips.{public_trip}
use Rattle.records.proofs.theorems.public_round_trip.Goals as goal

pub returns : goal.returns
returns g c = public_trip g.F.Field.ops g.met.F.Field.laws.numbered g.L.Lock.forms
