use Rattle.std.proofs.Common.{take}
use Rattle.expander.specs.Sampling.{Draws}
use Rattle.expander.proofs.sampler.Sampler.fill.Given as goal

abbrev pub invariant-loop-i : goal.invariant-loop-i
invariant-loop-i g l = Draws g.S.Stream.gives g.F.Field.sampled l.initial.self l.i (take l.i l.out) l.self
