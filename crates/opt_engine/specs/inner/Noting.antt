-- Notes of accesses, and cells that keep them.
use Rattle.std.specs.Prelude.{◌≡◌, ◌<◌, ℕ, ℤ, List, [], ◌∷◌, ◌++◌, length, replicate, Option, None, Some, slice_get, slice_set}
use Rattle.seg_meaning.specs.Access.{Access, Reads, Writes, Prints, value_in}
use Rattle.opt_engine.specs.declared.touch.CellValue.{CellValue}
use Rattle.opt_engine.specs.declared.notes.CellMark.{CellMark}
use Rattle.opt_engine.specs.declared.notes.CellMark.TheVariants as marks
use Rattle.opt_engine.specs.declared.notes.CellNotes.{CellNotes}
use Rattle.opt_engine.specs.declared.touching.Touching.{Touching}

-- no notes of so many cells
abbrev pub no_notes : ℕ → CellNotes
no_notes cells = record { marks = replicate cells marks.Untouched; reads = []; written = [] }

-- the notes after the first access of a cell, which was a read of this value
abbrev pub first_read_noted : ℕ → ℤ → CellNotes → CellNotes
first_read_noted cell value notes = record notes {
  marks = slice_set notes.marks cell marks.Read;
  reads = notes.reads ++ record { cell = cell; value = value } ∷ [];
}

-- the notes after the first write of a cell
abbrev pub first_write_noted : ℕ → CellNotes → CellNotes
first_write_noted cell notes = record notes {
  marks = slice_set notes.marks cell marks.Written;
  written = notes.written ++ cell ∷ [];
}

-- the notes after a read, by the mark of the cell
abbrev pub read_by_mark : Option CellMark → ℕ → ℤ → CellNotes → CellNotes
read_by_mark None cell value notes = notes
read_by_mark (Some marks.Untouched) cell value notes = first_read_noted cell value notes
read_by_mark (Some marks.Read) cell value notes = notes
read_by_mark (Some marks.Written) cell value notes = notes

-- the notes after a read of a cell that gave this value
abbrev pub read_noted : ℕ → ℤ → CellNotes → CellNotes
read_noted cell value notes = read_by_mark (slice_get notes.marks cell) cell value notes

-- the notes after a write, by the mark of the cell
abbrev pub write_by_mark : Option CellMark → ℕ → CellNotes → CellNotes
write_by_mark None cell notes = notes
write_by_mark (Some marks.Untouched) cell notes = first_write_noted cell notes
write_by_mark (Some marks.Read) cell notes = first_write_noted cell notes
write_by_mark (Some marks.Written) cell notes = notes

-- the notes after a write of a cell
abbrev pub write_noted : ℕ → CellNotes → CellNotes
write_noted cell notes = write_by_mark (slice_get notes.marks cell) cell notes

-- the notes after accesses, of which the latest is the first
abbrev pub notes_after : List Access → CellNotes → CellNotes
notes_after [] notes = notes
notes_after (Reads cell value ∷ earlier) notes = read_noted cell value (notes_after earlier notes)
notes_after (Writes cell value ∷ earlier) notes = write_noted cell (notes_after earlier notes)
notes_after (Prints value ∷ earlier) notes = notes_after earlier notes

-- these cells with no notes
abbrev pub fresh : List ℤ → Touching
fresh cells = record { cells = cells; notes = no_notes (length cells); missing = None }

-- a cell with its value
abbrev pub value_at : List ℤ → ℕ → CellValue
value_at cells cell = record { cell = cell; value = value_in (slice_get cells cell) }

-- the value of each of the cells is known
abbrev pub touch_knows : Touching → ℕ → Option ℤ
touch_knows touching cell = slice_get touching.cells cell

-- there is such a cell
pub record MayTouch (touching : Touching) (cell : ℕ) : Type 0 where
  pub value : cell < length touching.cells
  pub mark : cell < length touching.notes.marks

-- a read leaves the cells as they are and gives the value of the cell; a write sets it; each is noted, unless a note is
-- missing
abbrev pub TouchFollows : Touching → Access → Touching → Type 0
TouchFollows old (Reads cell value) new =
    (new.cells ≡ old.cells) × (value_in (slice_get old.cells cell) ≡ value)
    × (new.missing ≡ None → (old.missing ≡ None) × (new.notes ≡ read_noted cell value old.notes))
TouchFollows old (Writes cell value) new =
    (new.cells ≡ slice_set old.cells cell value)
    × (new.missing ≡ None → (old.missing ≡ None) × (new.notes ≡ write_noted cell old.notes))
TouchFollows old (Prints value) new = new ≡ old
