-- Cells whose values are learned at their first access, and marks that are taken away.
use Rattle.std.specs.Prelude.{◌≡◌, ◌<◌, ℕ, ℤ, List, [], ◌∷◌, length, Option, None, Some, slice_get, slice_set}
use Rattle.seg_meaning.specs.Access.{Access, Reads, Writes, Prints, KnowsNow, Ways, ways_of}
use Rattle.opt_engine.specs.declared.touch.CellValue.{CellValue}
use Rattle.opt_engine.specs.declared.notes.CellMark.{CellMark}
use Rattle.opt_engine.specs.declared.notes.CellMark.TheVariants as marks
use Rattle.opt_engine.specs.declared.notes.CellNotes.{CellNotes}
use Rattle.opt_engine.specs.declared.touching.Touching.{Touching}
use Rattle.opt_engine.specs.inner.Noting.{MayTouch, read_noted, write_noted}

-- the value of a cell with this mark, which is known once the cell was touched
abbrev pub known_by : Option CellMark → Option ℤ → Option ℤ
known_by None value = None
known_by (Some marks.Untouched) value = None
known_by (Some marks.Read) value = value
known_by (Some marks.Written) value = value

-- the values of the cells that were touched are known
abbrev pub hint_knows : Touching → ℕ → Option ℤ
hint_knows touching cell = known_by (slice_get touching.notes.marks cell) (slice_get touching.cells cell)

-- the note was made, unless a note is missing
abbrev pub IsNoted : Touching → CellNotes → Touching → Type 0
IsNoted old notes new = new.missing ≡ None → (old.missing ≡ None) × (new.notes ≡ notes)

-- There is such a cell. A read gives the known value, and any value if none was known. After a read and a write the value is
-- known. Each is noted, unless a note is missing.
abbrev pub HintFollows : Touching → Access → Touching → Type 0
HintFollows old (Reads cell value) new =
    (cell < length old.cells) × ((known : ℤ) → hint_knows old cell ≡ Some known → value ≡ known)
    × KnowsNow (hint_knows old) cell value (hint_knows new) × (length new.cells ≡ length old.cells)
    × IsNoted old (read_noted cell value old.notes) new
HintFollows old (Writes cell value) new =
    (cell < length old.cells) × KnowsNow (hint_knows old) cell value (hint_knows new) × (length new.cells ≡ length old.cells)
    × IsNoted old (write_noted cell old.notes) new
HintFollows old (Prints value) new = new ≡ old

-- what such cells state
abbrev pub hint_ways : Ways Touching
hint_ways = ways_of hint_knows MayTouch MayTouch HintFollows

-- the marks without those of these cells
abbrev pub without_marks : List CellMark → List CellValue → List CellMark
without_marks kept [] = kept
without_marks kept (at ∷ others) = without_marks (slice_set kept at.cell marks.Untouched) others
