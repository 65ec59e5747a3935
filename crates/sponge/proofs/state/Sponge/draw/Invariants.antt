use Rattle.std.proofs.Common.{◌-◌, ◌≤◌, length, take}
use Rattle.sponge.specs.Sponges.{Gives}
use Rattle.sponge.proofs.state.Sponge.draw.Given as goal

abbrev pub invariant-loop-given : goal.invariant-loop-given
invariant-loop-given l = (l.given ≤ length l.out) × Gives l.initial.self l.given (take l.given l.out) l.self

abbrev pub decreases-loop-given : goal.decreases-loop-given
decreases-loop-given l = length l.initial.out - l.given
