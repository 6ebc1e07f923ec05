use Rattle.std.proofs.Common.{rules}
use lib.ListN.{replicate}
use Prim.Native.Nat.{◌≤◌}
use Rattle.cells.proofs.RoomLaws.{lines_fit}
use Rattle.reports.proofs.felt.cell_lines.Goals as goal

pub laid_lines-requires : goal.laid_lines-requires
laid_lines-requires g c =
    let f : c.smr_cells-laid.result.lines ≤ 9 = rw c.smr_cells-laid.ensures.returned (lines_fit c.args.scheme c.args.string.now (replicate 182 0) (replicate 18 0)) in
    search rules
