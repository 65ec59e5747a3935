use Rattle.std.proofs.Common.{◌+◌, ◌≤◌, length, arith}
use Rattle.records.specs.Publics.{key_of}
use Rattle.records.proofs.Keys.{public-parts}
use Rattle.records.proofs.Writers.{wrote_more, wrote_same}
use Rattle.records.proofs.writer.Writer.put_public.Goals as goal

pub returns-clause-after : goal.returns-clause-after
returns-clause-after g c =
    let w = c.args.self.now in
    let y = c.args.y.now in
    let h = c.args.head.now in
    let inside : w.at ≤ length w.out.now = omega (arith, c.requires.room) in
    let numbers = wrote_more c.put_opening.ensures (wrote_same c.profile_bytes.ensures c.put_bytes.ensures) inside in
    wrote_same (public-parts g.F.Field.ops (key_of h y) (1 + (30 + length y)) (omega arith) h.seed)
    (wrote_more (wrote_more numbers c.put_bytes-2.ensures inside) c.put_elements.ensures inside)
