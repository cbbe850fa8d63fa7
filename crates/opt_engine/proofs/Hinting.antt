-- What a read and a write of cells that are learned from hints do to what is known.
use Rattle.std.proofs.Common.{◌≡◌, ◌≢◌, ◌<◌, ℕ, ℤ, List, length, Option, None, Some, refl, sym, ap, ◌∙◌, subst, inl, inr, length-set}
use Rattle.std.specs.Prelude.{◌↔◌, nat_eq, slice_get, slice_set}
use Rattle.std.proofs.lemmas.Bool.Decides.{eqb_tells}
use Rattle.seg_meaning.specs.Access.{HasRead, HasWritten, KnowsNow}
use Rattle.machine_state.proofs.lists.Places.{below_there, set_other, set_same}
use Rattle.opt_engine.specs.declared.notes.CellMark.{CellMark}
use Rattle.opt_engine.specs.declared.notes.CellMark.TheVariants as marks
use Rattle.opt_engine.specs.declared.notes.CellNotes.{CellNotes}
use Rattle.opt_engine.specs.declared.touching.Touching.{Touching}
use Rattle.opt_engine.specs.inner.Hinting.{IsNoted, hint_knows, hint_ways, known_by}
use Rattle.opt_engine.specs.inner.Noting.{MayTouch, read_by_mark, read_noted, write_by_mark, write_noted}
use Rattle.opt_engine.proofs.Places.{if_false, if_true}

-- what stands in a place once it was set
set_here : {A : Type 0} (xs : List A) (at : ℕ) (x : A) → at < length xs → slice_get (slice_set xs at x) at ≡ Some x
set_here xs at x lt = let was = below_there xs at lt in set_same xs at was.0 x was.1

-- a cell is known now with this value, and the others as before
knows_now : (old new : Touching) (cell : ℕ) (value : ℤ) → hint_knows new cell ≡ Some value → ((k : ℕ) → k ≢ cell → hint_knows new k ≡ hint_knows old k)
    → KnowsNow (hint_knows old) cell value (hint_knows new)
knows_now old new cell value own others = λ k.
    elim (eqb_tells k cell) [
      | inl same ↦ subst (λ (n : ℕ). hint_knows new n ≡ Some value) (sym same.1) own ∙ sym (if_true (nat_eq k cell) (Some value) (hint_knows old k) same.0)
      | inr other ↦ others k other.1 ∙ sym (if_false (nat_eq k cell) (Some value) (hint_knows old k) other.0)
    ]

-- the same may be touched as before
may_same : (old new : Touching) → length new.cells ≡ length old.cells → length new.notes.marks ≡ length old.notes.marks → (k : ℕ) → MayTouch old k ↔ MayTouch new k
may_same old new cells marked k = (
  λ may. record { value = subst (λ (n : ℕ). k < n) (sym cells) may.value; mark = subst (λ (n : ℕ). k < n) (sym marked) may.mark },
  λ may. record { value = subst (λ (n : ℕ). k < n) cells may.value; mark = subst (λ (n : ℕ). k < n) marked may.mark },
)

-- the mark of a cell once it was written
written_mark : (notes : CellNotes) (cell : ℕ) (mark : CellMark) → slice_get notes.marks cell ≡ Some mark → slice_get (write_by_mark (Some mark) cell notes).marks cell ≡ Some marks.Written
written_mark notes cell marks.Untouched is = set_same notes.marks cell marks.Untouched marks.Written is
written_mark notes cell marks.Read is = set_same notes.marks cell marks.Read marks.Written is
written_mark notes cell marks.Written is = is

written_other : (notes : CellNotes) (cell k : ℕ) (mark : CellMark) → k ≢ cell → slice_get (write_by_mark (Some mark) cell notes).marks k ≡ slice_get notes.marks k
written_other notes cell k marks.Untouched other = set_other notes.marks cell k marks.Written other
written_other notes cell k marks.Read other = set_other notes.marks cell k marks.Written other
written_other notes cell k marks.Written other = refl

written_long : (notes : CellNotes) (cell : ℕ) (mark : CellMark) → length (write_by_mark (Some mark) cell notes).marks ≡ length notes.marks
written_long notes cell marks.Untouched = length-set notes.marks cell marks.Written
written_long notes cell marks.Read = length-set notes.marks cell marks.Written
written_long notes cell marks.Written = refl

module _ (old new : Touching) (cell : ℕ) (value : ℤ) (may : MayTouch old cell) (set : new.cells ≡ slice_set old.cells cell value) where
  long : length new.cells ≡ length old.cells
  long = ap length set ∙ length-set old.cells cell value

  own_value : slice_get new.cells cell ≡ Some value
  own_value = ap (λ (l : List ℤ). slice_get l cell) set ∙ set_here old.cells cell value may.value

  other_value : (k : ℕ) → k ≢ cell → slice_get new.cells k ≡ slice_get old.cells k
  other_value k other = ap (λ (l : List ℤ). slice_get l k) set ∙ set_other old.cells cell k value other

  -- the first read of a cell
  pub read_first_is : slice_get old.notes.marks cell ≡ Some marks.Untouched → new.notes.marks ≡ (read_noted cell value old.notes).marks
      → IsNoted old (read_noted cell value old.notes) new → HasRead hint_ways old cell value new
  read_first_is first marked noted =
      let marked_so : new.notes.marks ≡ slice_set old.notes.marks cell marks.Read =
      marked ∙ ap (λ (m : Option CellMark). (read_by_mark m cell value old.notes).marks) first in
      let own_mark : slice_get new.notes.marks cell ≡ Some marks.Read =
      ap (λ (l : List CellMark). slice_get l cell) marked_so ∙ set_here old.notes.marks cell marks.Read may.mark in
      let knows = knows_now old new cell value (λ i. known_by (own_mark i) (own_value i))
      (λ k other. λ i. known_by ((ap (λ (l : List CellMark). slice_get l k) marked_so ∙ set_other old.notes.marks cell k marks.Read other) i) (other_value k other i)) in
      let same = may_same old new long (ap length marked_so ∙ length-set old.notes.marks cell marks.Read) in
      let answer : (v : ℤ) → hint_knows old cell ≡ Some v → value ≡ v = λ v known.
      let none : hint_knows old cell ≡ None = ap (λ (m : Option CellMark). known_by m (slice_get old.cells cell)) first in absurd (cc (none, known)) in
      record {
        answer = answer;
        known = knows;
        same = record { read = same; write = same };
        rule = (may.value, answer, knows, long, noted);
      }

  -- a write of a cell
  pub written_is : new.notes.marks ≡ (write_noted cell old.notes).marks → IsNoted old (write_noted cell old.notes) new → HasWritten hint_ways old cell value new
  written_is marked noted =
      let was = below_there old.notes.marks cell may.mark in
      let marked_so : new.notes.marks ≡ (write_by_mark (Some was.0) cell old.notes).marks = marked ∙ ap (λ (m : Option CellMark). (write_by_mark m cell old.notes).marks) was.1 in
      let own_mark : slice_get new.notes.marks cell ≡ Some marks.Written = ap (λ (l : List CellMark). slice_get l cell) marked_so ∙ written_mark old.notes cell was.0 was.1 in
      let knows = knows_now old new cell value (λ i. known_by (own_mark i) (own_value i))
      (λ k other. λ i. known_by ((ap (λ (l : List CellMark). slice_get l k) marked_so ∙ written_other old.notes cell k was.0 other) i) (other_value k other i)) in
      let same = may_same old new long (ap length marked_so ∙ written_long old.notes cell was.0) in
      record {
        known = knows;
        same = record { read = same; write = same };
        rule = (may.value, knows, long, noted);
      }

-- the read of a cell that was touched before
module _ (t : Touching) (cell : ℕ) (value : ℤ) (mark : CellMark) (may : MayTouch t cell) (is : slice_get t.notes.marks cell ≡ Some mark)
    (kept : read_by_mark (Some mark) cell value t.notes ≡ t.notes) (known_is : known_by (Some mark) (slice_get t.cells cell) ≡ Some value) where
  pub read_again_is : HasRead hint_ways t cell value t
  read_again_is =
      let own : hint_knows t cell ≡ Some value = ap (λ (m : Option CellMark). known_by m (slice_get t.cells cell)) is ∙ known_is in
      let knows = knows_now t t cell value own (λ k other. refl) in
      let same = may_same t t refl refl in
      let answer : (v : ℤ) → hint_knows t cell ≡ Some v → value ≡ v = λ v known. cc (own, known) in
      let notes : t.notes ≡ read_noted cell value t.notes = sym (ap (λ (m : Option CellMark). read_by_mark m cell value t.notes) is ∙ kept) in
      record {
        answer = answer;
        known = knows;
        same = record { read = same; write = same };
        rule = (may.value, answer, knows, refl, λ whole. (whole, notes));
      }
