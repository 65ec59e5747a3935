use Rattle.std.proofs.Common.{length}
use Rattle.sponge.specs.declared.state.Sponge.{Sponge}
use Rattle.sponge.specs.Sponges.{Takes}
use Rattle.sponge.proofs.state.Sponge.feed.Given as goal

-- what takes the rest from here on takes all of the bytes from the beginning on
abbrev pub invariant-loop-byte : goal.invariant-loop-byte
invariant-loop-byte l = (t : Sponge) → Takes l.self l.rest t → Takes l.initial.self l.bytes t

abbrev pub decreases-loop-byte : goal.decreases-loop-byte
decreases-loop-byte l = length l.rest
