use Rattle.std.proofs.Common.{[], ◌∷◌, refl, arith}
use Rattle.sponge.specs.Shake.{mixed}
use Rattle.sponge.proofs.Steps.{taken}
use Rattle.sponge.proofs.state.Sponge.put_byte.Goals as goal

pub returns : goal.returns
unfolding mixed
returns c = taken c.args.self.now _ c.advance.new.self 1 (c.args.byte ∷ []) (omega arith) refl refl refl c.mix.ensures c.advance.ensures
