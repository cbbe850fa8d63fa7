-- What the cells held at a fault.
use Rattle.std.specs.Prelude.{ℕ, ◌-◌, ◌++◌, ℤ, List, [], ◌∷◌, Option, None, Some, codes, decimal, drop, if◌then◌else◌, length, map, nat_lt, take}
use Rattle.twe_program.specs.declared.program.CellDecl.{CellDecl}
use Rattle.twe_program.specs.Program.{size_of}
use Rattle.seg_exec.specs.declared.snapshot.FaultSnapshot.{FaultSnapshot}
use Rattle.run_texts.specs.TaskLabels.{listed_args}

-- how many values of a declaration are shown at most
abbrev pub most_values : ℕ
most_values = 16

-- of how many declarations the values are shown at most
abbrev pub most_cells : ℕ
most_cells = 8

-- the values of a declaration, element by element, a grid row by row
abbrev pub values_of : List ℤ → CellDecl → List ℤ
values_of values cell = take (size_of cell.dims) (drop cell.first values)

-- the first of them, and `..` if there are more
abbrev pub listed_values : List ℤ → List ℕ
listed_values values =
    listed_args (take most_values values) ++ (if nat_lt most_values (length values) then codes ", .." else [])

-- what the cells of a declaration held, as `at the fault d is 0, 1, 2, 3`
abbrev pub cell_shown : List ℤ → CellDecl → List ℕ
cell_shown values cell = codes "at the fault `" ++ (cell.name ++ (codes "` is " ++ listed_values (values_of values cell)))

-- how many declarations are left out
abbrev pub cells_left_out_text : ℕ → List ℕ
cells_left_out_text number = codes "declarations of cells that are left out here: " ++ decimal number

-- the same, if some are left out
abbrev pub cells_left_out : ℕ → List (List ℕ)
cells_left_out count = if nat_lt most_cells count then cells_left_out_text (count - most_cells) ∷ [] else []

-- what the cells held, declaration by declaration
abbrev pub cells_shown : List ℤ → List CellDecl → List (List ℕ)
cells_shown values cells = map (cell_shown values) (take most_cells cells) ++ cells_left_out (length cells)

-- the same of a snapshot, if there is one
abbrev pub snapshot_cells_shown : Option FaultSnapshot → List CellDecl → List (List ℕ)
snapshot_cells_shown None cells = []
snapshot_cells_shown (Some snapshot) cells = cells_shown snapshot.cells cells
