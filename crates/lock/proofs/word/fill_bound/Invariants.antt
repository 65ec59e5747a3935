use Rattle.lock.specs.Instances.{given as problem-of}
use Rattle.lock.proofs.Products.{Binding}
use Rattle.lock.proofs.word.fill_bound.Given as goal

abbrev pub invariant-loop-r : goal.invariant-loop-r
invariant-loop-r g l = Binding g.F.Field.ops (problem-of l.problem) l.s l.initial.out l.r l.out
