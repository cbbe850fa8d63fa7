-- The rows of the tasks that are shown, from 0 on in the order of their numbers.
use Rattle.std.specs.Prelude.{◌+◌, ℕ, Bool, List, [], ◌∷◌, Option, None, Some, if◌then◌else◌}

-- the row of a task that is shown if the flag is set, if this is the next row
abbrev pub row_if : Bool → ℕ → Option ℕ
row_if flag next = if flag then Some next else None

-- the next row after it
abbrev pub next_row : Bool → ℕ → ℕ
next_row flag next = if flag then next + 1 else next

-- the rows of tasks, the first of which that is shown has this row: each that is shown has the next one
abbrev pub rows_from : ℕ → List Bool → List (Option ℕ)
rows_from next [] = []
rows_from next (flag ∷ flags) = row_if flag next ∷ rows_from (next_row flag next) flags
