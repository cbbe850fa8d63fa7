use Rattle.std.proofs.Common.{◌≡◌, ◌≤◌, ◌+◌, ◌++◌, drop}
use Rattle.twe_base.specs.Language.{max_cells}
use Rattle.name_check.specs.cell_limits.GoesOver.{cells_of}
use Rattle.twe_program.specs.Program.{cells_made}
use Rattle.twe_names.specs.Meaning.{cells_from}
use Rattle.twe_names.proofs.cells.cells.Given as goal

-- the cells so far and those of what is left are all of them, and few
abbrev pub invariant-loop-item : goal.invariant-loop-item
invariant-loop-item l =
    let rest = cells_from l.globals l.first (cells_of (drop l.item-index l.items)) in
    record {
      made : l.cells ++ rest ≡ cells_from l.globals 0 (cells_of l.items);
      few : l.first + cells_made rest ≤ max_cells;
    }
