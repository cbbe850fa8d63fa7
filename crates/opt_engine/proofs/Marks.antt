-- Notes of accesses are what the words on touched cells say.
use Rattle.std.proofs.Common.{◌≡◌, ◌<◌, ℕ, ℤ, Bool, true, false, List, [], ◌∷◌, ◌++◌, length, Option, Some, refl, sym, ap, ◌∙◌, subst, length-set}
use Rattle.std.specs.Prelude.{◌||◌, if◌then◌else◌, is_some, nat_eq, slice_get}
use Rattle.std.proofs.lemmas.List.{length-replicate}
use Rattle.seg_meaning.specs.Access.{Access, Reads, Writes, Prints, MayAll}
use Rattle.seg_meaning.specs.Plain.{list_ways}
use Rattle.opt_engine.specs.declared.notes.CellMark.{CellMark}
use Rattle.opt_engine.specs.declared.notes.CellMark.TheVariants as marks
use Rattle.opt_engine.specs.declared.notes.CellNotes.{CellNotes}
use Rattle.opt_engine.specs.declared.touch.CellValue.{CellValue}
use Rattle.opt_engine.specs.inner.Noting.{first_write_noted, no_notes, notes_after, read_by_mark, read_noted, write_by_mark, write_noted}
use Rattle.opt_engine.specs.Touches.{first_reads, is_touched, last_written, written_cells}
use Rattle.opt_engine.proofs.Places.{get_replicate, if_false, if_true, same_place, set_place}

-- the mark of a cell that is read
abbrev pub on_read : CellMark → CellMark
on_read marks.Untouched = marks.Read
on_read marks.Read = marks.Read
on_read marks.Written = marks.Written

-- the mark of a cell after accesses
abbrev pub mark_of : List Access → ℕ → CellMark
mark_of [] k = marks.Untouched
mark_of (Reads cell value ∷ earlier) k = if nat_eq cell k then on_read (mark_of earlier k) else mark_of earlier k
mark_of (Writes cell value ∷ earlier) k = if nat_eq cell k then marks.Written else mark_of earlier k
mark_of (Prints value ∷ earlier) k = mark_of earlier k

abbrev pub is_mark : CellMark → Bool
is_mark marks.Untouched = false
is_mark marks.Read = true
is_mark marks.Written = true

abbrev pub is_written : CellMark → Bool
is_written marks.Untouched = false
is_written marks.Read = false
is_written marks.Written = true

touched_by_read : (b : Bool) (m : CellMark) → (b || is_mark m) ≡ is_mark (if b then on_read m else m)
touched_by_read true marks.Untouched = refl
touched_by_read true marks.Read = refl
touched_by_read true marks.Written = refl
touched_by_read false m = refl

touched_by_write : (b : Bool) (m : CellMark) → (b || is_mark m) ≡ is_mark (if b then marks.Written else m)
touched_by_write true m = refl
touched_by_write false m = refl

-- a cell is touched if it has a mark
pub touched_is : (accesses : List Access) (k : ℕ) → is_touched accesses k ≡ is_mark (mark_of accesses k)
touched_is [] k = refl
touched_is (Reads cell value ∷ earlier) k = ap (λ (t : Bool). nat_eq cell k || t) (touched_is earlier k) ∙ touched_by_read (nat_eq cell k) (mark_of earlier k)
touched_is (Writes cell value ∷ earlier) k = ap (λ (t : Bool). nat_eq cell k || t) (touched_is earlier k) ∙ touched_by_write (nat_eq cell k) (mark_of earlier k)
touched_is (Prints value ∷ earlier) k = touched_is earlier k

written_by_read : (b : Bool) (m : CellMark) → is_written m ≡ is_written (if b then on_read m else m)
written_by_read true marks.Untouched = refl
written_by_read true marks.Read = refl
written_by_read true marks.Written = refl
written_by_read false m = refl

written_by_write : (b : Bool) (value : ℤ) (before : Option ℤ) (m : CellMark) → is_some before ≡ is_written m
    → is_some (if b then Some value else before) ≡ is_written (if b then marks.Written else m)
written_by_write true value before m same = refl
written_by_write false value before m same = same

-- a cell has a last written value if its mark is that of a written one
pub written_is : (accesses : List Access) (k : ℕ) → is_some (last_written accesses k) ≡ is_written (mark_of accesses k)
written_is [] k = refl
written_is (Reads cell value ∷ earlier) k = written_is earlier k ∙ written_by_read (nat_eq cell k) (mark_of earlier k)
written_is (Writes cell value ∷ earlier) k = written_by_write (nat_eq cell k) value (last_written earlier k) (mark_of earlier k) (written_is earlier k)
written_is (Prints value ∷ earlier) k = written_is earlier k

-- The notes of n cells are those of these accesses.
pub record NotesStand (n : ℕ) (accesses : List Access) (notes : CellNotes) : Type 0 where
  pub size : length notes.marks ≡ n
  pub marked : (k : ℕ) → k < n → slice_get notes.marks k ≡ Some (mark_of accesses k)
  pub reads : notes.reads ≡ first_reads accesses
  pub written : notes.written ≡ written_cells accesses

module _ (n : ℕ) (earlier : List Access) (cell : ℕ) (value : ℤ) (notes : CellNotes) (stands : NotesStand n earlier notes) (below : cell < n) where
  there : (k : ℕ) (m : CellMark) → mark_of earlier cell ≡ m → cell ≡ k → mark_of earlier k ≡ m
  there k m is same = ap (mark_of earlier) (sym same) ∙ is

  read_again : (m : CellMark) → mark_of earlier cell ≡ m → is_mark m ≡ true → on_read m ≡ m → NotesStand n (Reads cell value ∷ earlier) notes
  read_again m is touched kept = record {
    size = stands.size;
    marked = λ k lt. stands.marked k lt ∙ ap (λ (x : CellMark). Some x) (same_place cell k (mark_of earlier k) (on_read (mark_of earlier k))
        (λ same. let at = there k m is same in at ∙ (sym kept ∙ sym (ap on_read at))));
    reads = stands.reads ∙ sym (if_true (is_touched earlier cell) (first_reads earlier) (first_reads earlier ++ record { cell = cell; value = value } ∷ []) (touched_is earlier cell ∙ (ap is_mark is ∙ touched)));
    written = stands.written;
  }

  read_first : mark_of earlier cell ≡ marks.Untouched → NotesStand n (Reads cell value ∷ earlier) (read_by_mark (Some marks.Untouched) cell value notes)
  read_first is = record {
    size = length-set notes.marks cell marks.Read ∙ stands.size;
    marked = λ k lt. set_place notes.marks cell k marks.Read (mark_of earlier k) (on_read (mark_of earlier k)) (stands.marked k lt)
        (λ same. sym (ap on_read (there k marks.Untouched is same)));
    reads = ap (λ (l : List CellValue). l ++ record { cell = cell; value = value } ∷ []) stands.reads
        ∙ sym (if_false (is_touched earlier cell) (first_reads earlier) (first_reads earlier ++ record { cell = cell; value = value } ∷ []) (touched_is earlier cell ∙ ap is_mark is));
    written = stands.written;
  }

  read_by : (m : CellMark) → mark_of earlier cell ≡ m → NotesStand n (Reads cell value ∷ earlier) (read_by_mark (Some m) cell value notes)
  read_by marks.Untouched is = read_first is
  read_by marks.Read is = read_again marks.Read is refl refl
  read_by marks.Written is = read_again marks.Written is refl refl

  read_stands : NotesStand n (Reads cell value ∷ earlier) (read_noted cell value notes)
  read_stands =
      subst (λ (o : Option CellMark). NotesStand n (Reads cell value ∷ earlier) (read_by_mark o cell value notes)) (sym (stands.marked cell below)) (read_by (mark_of earlier cell) refl)

  write_again : mark_of earlier cell ≡ marks.Written → NotesStand n (Writes cell value ∷ earlier) notes
  write_again is = record {
    size = stands.size;
    marked = λ k lt. stands.marked k lt ∙ ap (λ (x : CellMark). Some x) (same_place cell k (mark_of earlier k) marks.Written (there k marks.Written is));
    reads = stands.reads;
    written = stands.written ∙ sym (if_true (is_some (last_written earlier cell)) (written_cells earlier) (written_cells earlier ++ cell ∷ []) (written_is earlier cell ∙ ap is_written is));
  }

  write_first : (m : CellMark) → mark_of earlier cell ≡ m → is_written m ≡ false → NotesStand n (Writes cell value ∷ earlier) (first_write_noted cell notes)
  write_first m is unwritten = record {
    size = length-set notes.marks cell marks.Written ∙ stands.size;
    marked = λ k lt. set_place notes.marks cell k marks.Written (mark_of earlier k) marks.Written (stands.marked k lt) (λ same. refl);
    reads = stands.reads;
    written = ap (λ (l : List ℕ). l ++ cell ∷ []) stands.written
        ∙ sym (if_false (is_some (last_written earlier cell)) (written_cells earlier) (written_cells earlier ++ cell ∷ []) (written_is earlier cell ∙ (ap is_written is ∙ unwritten)));
  }

  write_by : (m : CellMark) → mark_of earlier cell ≡ m → NotesStand n (Writes cell value ∷ earlier) (write_by_mark (Some m) cell notes)
  write_by marks.Untouched is = write_first marks.Untouched is refl
  write_by marks.Read is = write_first marks.Read is refl
  write_by marks.Written is = write_again is

  write_stands : NotesStand n (Writes cell value ∷ earlier) (write_noted cell notes)
  write_stands =
      subst (λ (o : Option CellMark). NotesStand n (Writes cell value ∷ earlier) (write_by_mark o cell notes)) (sym (stands.marked cell below)) (write_by (mark_of earlier cell) refl)

-- the notes after accesses to cells that there are
pub notes_stand : (cells : List ℤ) (accesses : List Access) → MayAll list_ways cells accesses → NotesStand (length cells) accesses (notes_after accesses (no_notes (length cells)))
notes_stand cells [] may = record {
  size = length-replicate (length cells) marks.Untouched;
  marked = λ k lt. get_replicate (length cells) k marks.Untouched lt;
  reads = refl;
  written = refl;
}
notes_stand cells (Reads cell value ∷ earlier) may =
    read_stands (length cells) earlier cell value (notes_after earlier (no_notes (length cells))) (notes_stand cells earlier may.1) may.0
notes_stand cells (Writes cell value ∷ earlier) may =
    write_stands (length cells) earlier cell value (notes_after earlier (no_notes (length cells))) (notes_stand cells earlier may.1) may.0
notes_stand cells (Prints value ∷ earlier) may =
    let before = notes_stand cells earlier may in
    record { size = before.size; marked = before.marked; reads = before.reads; written = before.written }
