use Rattle.records.proofs.Trips.{secret_trip}
use Rattle.records.proofs.theorems.secret_round_trip.Goals as goal

pub returns : goal.returns
returns g c = secret_trip g.F.Field.ops g.met.F.Field.laws.numbered
