use Rattle.expander.specs.Sampling.{Sampling}
use Rattle.expander.proofs.Samples.{stands_first}
use Rattle.expander.proofs.sampler.Sampler.new.Goals as goal

pub returns : goal.returns
unfolding Sampling
returns g c f k is = stands_first g.S.Stream.gives c.args.source _ f k is
