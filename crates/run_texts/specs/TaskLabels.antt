-- What is written of a task.
use Rattle.std.specs.Fmt.{signed_decimal}
use Rattle.std.specs.Prelude.{◌++◌, ℕ, ℤ, List, [], ◌∷◌, Option, None, Some, codes, decimal, slice_get}
use Rattle.std.specs.List.{flat_map}
use Rattle.twe_base.specs.declared.place.Place.{Place}
use Rattle.twe_program.specs.declared.program.Decl.{Decl}
use Rattle.twe_program.specs.Program.{Program}
use Rattle.machine_state.specs.declared.state.TaskRow.{TaskRow}

-- arguments, each after `, `
abbrev pub later_args : List ℤ → List ℕ
later_args args = flat_map (λ arg. codes ", " ++ signed_decimal arg) args

-- arguments with `, ` between them
abbrev pub listed_args : List ℤ → List ℕ
listed_args [] = []
listed_args (arg ∷ args) = signed_decimal arg ++ later_args args

-- the number of a task of this name, and its arguments, as `3 walk(1, 2)`
abbrev pub numbered_call : ℕ → List ℕ → List ℤ → List ℕ
numbered_call task name args = decimal task ++ (codes " " ++ (name ++ (codes "(" ++ (listed_args args ++ codes ")"))))

-- the name of a declaration that was looked up
abbrev pub decl_name : Option Decl → List ℕ
decl_name None = []
decl_name (Some decl) = decl.name

-- the number of a task, its name and its arguments
abbrev pub task_call : Program → TaskRow → List ℕ
task_call p row = numbered_call row.frame.task (decl_name (slice_get p.tasks row.decl)) row.args

-- the place of a declaration, as ` of 4:6`
abbrev pub place_words : Place → List ℕ
place_words place = codes " of " ++ (decimal place.line ++ (codes ":" ++ decimal place.col))

-- the place of a declaration that was looked up
abbrev pub decl_place_text : Option Decl → List ℕ
decl_place_text None = []
decl_place_text (Some decl) = place_words decl.place
