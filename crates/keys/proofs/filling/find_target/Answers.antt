use Rattle.std.proofs.Common.{◌≡◌, ◌-◌, ◌*◌, List, [], length, ap, ◌∙◌, rules}
use Rattle.std.proofs.lemmas.List.{take_at, length-take-le}
use Rattle.expander.specs.Streams.{drawn, seed_stream}
use Rattle.lock.specs.Instances.{listed, product}
use Rattle.keys.specs.Making.{matrix_of}
use Rattle.keys.proofs.filling.find_target.Goals as goal

pub returns : goal.returns
unfolding matrix_of
returns g c =
    let o = g.F.Field.ops in
    let s = c.args.shape in
    let rows : length c.fill_target.new.target ≡ s.m - s.k = search rules in
    let whole = length-take-le (s.k * (s.m - s.k)) c.args.matrix.now c.requires.cells in
    let matrix = c.sample_list.ensures ∙ ap (drawn g.F.Field.sampled (seed_stream g.E.Expander.block _ c.args.seed.now) 0) whole in
    take_at c.fill_target.new.target _ (s.m - s.k) rows
    ∙ c.fill_target.ensures
    ∙ ap (λ (h : List g.row.F.Denot). listed (product o (record { shape = s; matrix = h; target = [] }) c.args.word.now) 0 (s.m - s.k)) matrix
