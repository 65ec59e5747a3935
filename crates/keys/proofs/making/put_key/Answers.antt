use Rattle.std.proofs.Common.{◌≤◌, length, arith, rules}
use Rattle.records.proofs.Writers.{wrote_more, wrote_on}
use Rattle.keys.proofs.making.put_key.Goals as goal

pub returns : goal.returns
returns g c =
    let w = c.new-writer.result in
    let inside : w.at ≤ length w.out.now = omega (arith, c.new-writer.ensures.place) in
    wrote_on (wrote_more c.put_public.ensures.after c.put_secret.ensures.after inside) c.new-writer.ensures.same c.new-writer.ensures.place (search rules)
