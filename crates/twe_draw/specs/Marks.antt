-- Which entries have a bar in a picture: those in whose rows it has one.
use Rattle.std.specs.Prelude.{◌==◌, ℕ, suc, Bool, true, false, List, [], ◌∷◌, Option, None, Some, if◌then◌else◌}
use Rattle.twe_draw.specs.declared.picture.bars.EntryBar.{EntryBar}
use Rattle.twe_draw.specs.Shown.{row_at}

-- whether a row was found
abbrev pub is_row : Option ℕ → Bool
is_row None = false
is_row (Some row) = true

-- the entries whose tasks have a row
abbrev pub marked : List (Option ℕ) → List EntryBar → List EntryBar
marked rows [] = []
marked rows (bar ∷ bars) = if is_row (row_at rows bar.task) then bar ∷ marked rows bars else marked rows bars

-- how many of these are the entry of this number
abbrev pub marks_of : ℕ → List EntryBar → ℕ
marks_of number [] = 0
marks_of number (bar ∷ bars) = if bar.number == number then suc (marks_of number bars) else marks_of number bars
