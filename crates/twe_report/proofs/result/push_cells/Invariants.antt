use Rattle.std.proofs.Common.{◌≡◌, ◌++◌, take}
use Rattle.std.specs.List.{flat_map}
use Rattle.twe_report.specs.Texts.{cell_line}
use Rattle.twe_report.proofs.result.push_cells.Given as goal

abbrev pub invariant-loop-cell : goal.invariant-loop-cell
invariant-loop-cell l = l.text ≡ l.fn.text ++ flat_map (cell_line l.values) (take l.cell-index l.cells)
