use Rattle.std.proofs.Common.{arith}
use Rattle.lock.proofs.Ranges.{sounds}
use Rattle.keys.proofs.Cells.{few_cells}
use Rattle.keys.proofs.workspace.Workspace.fill.Goals as goal

pub find_target-requires-clause-cells : goal.find_target-requires-clause-cells
find_target-requires-clause-cells g c =
    let s = c.args.sound.now.shape in
    let range = (sounds g.L.Lock.forms s c.args.sound.now.sound).range in
    omega (arith, few_cells s.k s.m (omega (arith, range.k_high)) range.m_high, c.as_mut_slice-matrix.ensures.len, c.args.self.now.cells)
