-- When a running task has declared an access.
use Rattle.std.specs.Prelude.{ℕ, ℤ, true, false, List, [], ◌∷◌}
use Rattle.region_paths.specs.Concrete.{region}
use Rattle.effect_sets.specs.Access.{PathAccess as PathAccess, SomeCoversAccess}
use Rattle.twe_program.specs.Program.{Program}
use Rattle.seg_meaning.specs.Access.{Access, Reads, Writes, Prints}
use Rattle.seg_meaning.specs.Entry.{effects_at}
use Rattle.isolation_laws.specs.soundness.CellPaths.{path_of_cell}

-- a read or a write of a cell has the cell's concrete path; a print is a write of `Console`, which is the first region
abbrev pub access_of : Program → Access → PathAccess
access_of p (Reads cell value) = record { write = false; path = path_of_cell p cell }
access_of p (Writes cell value) = record { write = true; path = path_of_cell p cell }
access_of p (Prints value) = record { write = true; path = region 0 ∷ [] }

-- the access lies in the set of one effect of a task of this declaration with these arguments, which writes if it
-- writes
abbrev pub DeclaredNow : Program → ℕ → List ℤ → Access → Type 0
DeclaredNow p task args access = SomeCoversAccess (effects_at p task args).effects (access_of p access)
