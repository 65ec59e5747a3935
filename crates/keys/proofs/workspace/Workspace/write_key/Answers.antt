use Rattle.std.proofs.lemmas.Bool.{and_parts}
use Rattle.lock.specs.Locks.{sound}
use Rattle.keys.proofs.workspace.Workspace.write_key.Goals as goal

pub new-requires : goal.new-requires
new-requires g c = (and_parts (sound g.L.Lock.forms c.args.request.now.profile.shape) _ c.in_ok-sizes.ensures.1.limits).0
