-- What stands behind a place of a text.
use Rattle.std.specs.Prelude.{ℕ, ◌-◌, List, drop}
use Rattle.twe_base.specs.declared.place.Place.{Place}
use Rattle.twe_frontend.specs.Lines.{after_lines}

-- the text from the place on
abbrev pub from_place : List ℕ → Place → List ℕ
from_place text place = drop (place.col - 1) (after_lines (place.line - 1) text)
