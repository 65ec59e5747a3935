use Rattle.std.proofs.Common.{◌+◌, ◌≤◌, length, refl, arith}
use Rattle.records.proofs.Keys.{secret-parts}
use Rattle.records.proofs.Writers.{wrote_more, wrote_same}
use Rattle.records.proofs.writer.Writer.put_secret.Goals as goal

pub returns-clause-after : goal.returns-clause-after
returns-clause-after g c =
    let w = c.args.self.now in
    let u = c.args.u.now in
    let inside : w.at ≤ length w.out.now = omega (arith, c.requires.room) in
    wrote_same (secret-parts g.F.Field.ops u (1 + length u) refl) (wrote_more c.put_opening.ensures c.put_elements.ensures inside)
