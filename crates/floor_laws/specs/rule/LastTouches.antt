-- What a segment knows of the cells that it has touched.
use Rattle.std.specs.Prelude.{ℕ, ℤ, List, [], ◌∷◌, Option, Some, None, if◌then◌else◌, nat_eq}
use Rattle.floor_laws.specs.declared.rule.view.Touch.{Touch}
use Rattle.floor_laws.specs.declared.rule.view.Touch.TheVariants.{Read, Write}

-- the value that the latest touch of a cell has read or written; none if no touch is of that cell
abbrev pub last_touched : List Touch → ℕ → Option ℤ
last_touched [] c = None
last_touched (Read cell value ∷ earlier) c = if nat_eq c cell then Some value else last_touched earlier c
last_touched (Write cell value ∷ earlier) c = if nat_eq c cell then Some value else last_touched earlier c
