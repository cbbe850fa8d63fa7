use Rattle.std.proofs.Common.{◌≡◌, ◌++◌, map, drop}
use Rattle.run_notes.specs.CellsShown.{cell_shown}
use Rattle.run_notes.proofs.cells_shown.push_each_cell.Given as goal

-- what was added so far, with what the cells of the declarations that are left hold
abbrev pub invariant-loop-cell : goal.invariant-loop-cell
invariant-loop-cell l =
    l.remarks ++ map (cell_shown l.values) (drop l.cell-index l.cells) ≡ l.fn.remarks ++ map (cell_shown l.values) l.cells
