use Rattle.std.proofs.Common.{◌≤◌, length, arith}
use Rattle.records.proofs.Writers.{wrote_more, wrote_same}
use Rattle.records.proofs.writer.Writer.put_opening.Goals as goal

pub returns : goal.returns
returns c =
    let w = c.args.self.now in
    let inside : w.at ≤ length w.out.now = omega (arith, c.requires.room) in
    wrote_more (wrote_same c.to_be_bytes.ensures c.put_bytes.ensures) c.put_bytes-2.ensures inside
