-- What is written of a cell: its path. An effect on this path alone is written so.
use Rattle.std.specs.Fmt.{signed_decimal}
use Rattle.std.specs.Prelude.{◌++◌, ℕ, List, [], ◌∷◌, codes}
use Rattle.std.specs.List.{flat_map}
use Rattle.region_paths.specs.Concrete.{ConcreteElem, ConcretePath, region, number}
use Rattle.twe_program.specs.Program.{Program}
use Rattle.isolation_laws.specs.soundness.CellPaths.{path_of_cell}
use Rattle.twe_frontend.specs.meaning.PathTexts.{in_brackets, name_at_number}

-- a region by its name, and an index in brackets
abbrev pub path_part_text : List (List ℕ) → ConcreteElem → List ℕ
path_part_text regions (region n) = name_at_number regions n
path_part_text regions (number z) = in_brackets (signed_decimal z)

-- the same after `:`
abbrev pub next_part : List (List ℕ) → ConcreteElem → List ℕ
next_part regions part = codes ":" ++ path_part_text regions part

-- parts of a path, each after `:`
abbrev pub more_parts : List (List ℕ) → ConcretePath → List ℕ
more_parts regions path = flat_map (next_part regions) path

-- the first part of a path; one that is no region is written below `Root`
abbrev pub first_part : List (List ℕ) → ConcreteElem → List ℕ
first_part regions (region n) = name_at_number regions n
first_part regions (number z) = codes "Root" ++ next_part regions (number z)

-- a path: the root alone is `Root`
abbrev pub concrete_text : List (List ℕ) → ConcretePath → List ℕ
concrete_text regions [] = codes "Root"
concrete_text regions (part ∷ path) = first_part regions part ++ more_parts regions path

-- the path of the cell of this number, as `Total:[2]`
abbrev pub cell_text : Program → ℕ → List ℕ
cell_text p cell = concrete_text p.regions (path_of_cell p cell)
