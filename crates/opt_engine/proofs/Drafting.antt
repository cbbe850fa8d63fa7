-- A draft that is run gives what its segment gives.
use Rattle.std.proofs.Common.{◌≡◌, ◌<◌, ℕ, ℤ, List, [], ◌∷◌, length, map, Option, None, sym, ap, ◌∙◌, subst}
use Rattle.std.specs.Prelude.{slice_get, slice_set}
use Rattle.std.proofs.lemmas.List.{length-replicate}
use Rattle.twe_program.specs.Program.{Program}
use Rattle.twe_program.specs.WellFormed.{IsWellFormed}
use Rattle.seg_meaning.specs.declared.frame.Frame.{Frame}
use Rattle.seg_meaning.specs.declared.stop.Stop.{Stop}
use Rattle.seg_meaning.specs.Access.{Access, Reads, Writes, Prints, Agrees, Follows, MayAll, after, value_in, ways_of}
use Rattle.seg_meaning.specs.Plain.{list_ways}
use Rattle.seg_meaning.specs.Segment.{CarriesOut, MayCarryOut, Stopped, segment}
use Rattle.seg_meaning.proofs.Accesses.{may_carry_out}
use Rattle.opt_engine.specs.declared.drafts.Draft.{Draft}
use Rattle.opt_engine.specs.declared.notes.CellNotes.{CellNotes}
use Rattle.opt_engine.specs.declared.touching.Touching.{Touching}
use Rattle.opt_engine.specs.inner.Noting.{MayTouch, TouchFollows, fresh, no_notes, notes_after, read_noted, touch_knows, value_at, write_noted}
use Rattle.opt_engine.specs.Drafts.{IsDraftOf, drafted}
use Rattle.opt_engine.specs.Touches.{last_writes, written_cells}
use Rattle.opt_engine.proofs.Marks.{notes_stand}
use Rattle.opt_engine.proofs.Touched.{values_are}

-- what accesses make of cells that note them
record HasTouched (old : Touching) (accesses : List Access) (new : Touching) : Type 0 where
  agrees : Agrees old.cells accesses
  cells : new.cells ≡ after old.cells accesses
  notes : new.missing ≡ None → (old.missing ≡ None) × (new.notes ≡ notes_after accesses old.notes)

touched : (old : Touching) (accesses : List Access) (new : Touching) → Follows TouchFollows old accesses new → HasTouched old accesses new
touched old [] new is = record {
  agrees = tt;
  cells = ap (λ (t : Touching). t.cells) is;
  notes = λ none. (sym (ap (λ (t : Touching). t.missing) is) ∙ none, ap (λ (t : Touching). t.notes) is);
}
touched old (Reads cell value ∷ earlier) new is =
    let before = touched old earlier is.0 is.1 in
    record {
      agrees = (before.agrees, ap (λ (l : List ℤ). value_in (slice_get l cell)) (sym before.cells) ∙ is.2.1);
      cells = is.2.0 ∙ before.cells;
      notes = λ none. let last = is.2.2 none in let first = before.notes last.0 in (first.0, last.1 ∙ ap (λ (n : CellNotes). read_noted cell value n) first.1);
    }
touched old (Writes cell value ∷ earlier) new is =
    let before = touched old earlier is.0 is.1 in
    record {
      agrees = before.agrees;
      cells = is.2.0 ∙ ap (λ (l : List ℤ). slice_set l cell value) before.cells;
      notes = λ none. let last = is.2.1 none in let first = before.notes last.0 in (first.0, last.1 ∙ ap (λ (n : CellNotes). write_noted cell n) first.1);
    }
touched old (Prints value ∷ earlier) new is =
    let before = touched old earlier new is in
    record { agrees = before.agrees; cells = before.cells; notes = before.notes }

-- what may be done to a list of cells may be done to such cells, whatever is known of them and by whatever rule
module _ (known : Touching → ℕ → Option ℤ) (rule : Touching → Access → Touching → Type 0) where
  pub may_touch : (t : Touching) (accesses : List Access) → length t.notes.marks ≡ length t.cells → MayAll list_ways t.cells accesses
      → MayAll (ways_of known MayTouch MayTouch rule) t accesses
  may_touch t [] long may = tt
  may_touch t (Reads cell value ∷ earlier) long may = (record { value = may.0; mark = subst (λ (n : ℕ). cell < n) (sym long) may.0 }, may_touch t earlier long may.1)
  may_touch t (Writes cell value ∷ earlier) long may = (record { value = may.0; mark = subst (λ (n : ℕ). cell < n) (sym long) may.0 }, may_touch t earlier long may.1)
  may_touch t (Prints value ∷ earlier) long may = may_touch t earlier long may

-- each access of a segment of the program is to a cell of the draft
pub may_access : (p : Program) (draft : Draft) (frame : Frame) → IsWellFormed p → IsDraftOf p draft → MayAll list_ways draft.cells (segment p frame draft.cells).accesses
may_access p draft frame well is = may_carry_out p well draft.cells is.cells frame draft.cells

pub may_run : (p : Program) (draft : Draft) (t : Touching) → IsWellFormed p → IsDraftOf p draft → t ≡ fresh draft.cells → (frame : Frame)
    → MayCarryOut p (ways_of touch_knows MayTouch MayTouch TouchFollows) frame t
may_run p draft t well is new frame =
    subst (λ (x : Touching). MayCarryOut p (ways_of touch_knows MayTouch MayTouch TouchFollows) frame x) (sym new)
    (λ cells. may_touch touch_knows TouchFollows (fresh draft.cells) (segment p frame cells).accesses (length_marks (length draft.cells)) (may_carry_out p well draft.cells is.cells frame cells)) where
      length_marks : (n : ℕ) → length (no_notes n).marks ≡ n
      length_marks n = length-replicate n _

-- what the run of a draft records
pub ran_draft : (p : Program) (draft : Draft) (new_frame : Frame) (old new : Touching) (stop : Stop) → IsWellFormed p → IsDraftOf p draft → old ≡ fresh draft.cells
    → CarriesOut p TouchFollows draft.frame old stop new_frame new → new.missing ≡ None
    → record {
      task = draft.task;
      before = draft.frame;
      after = new_frame;
      reads = new.notes.reads;
      writes = map (value_at new.cells) new.notes.written;
      stop = stop;
    } ≡ drafted p draft
ran_draft p draft new_frame old new stop well is first h whole =
    let begun = fresh draft.cells in
    let carried : CarriesOut p TouchFollows draft.frame begun stop new_frame new = subst (λ (t : Touching). CarriesOut p TouchFollows draft.frame t stop new_frame new) first h in
    let w = touched begun carried.accesses new carried.follows in
    let e = carried.means draft.cells w.agrees in
    let left = segment p draft.frame draft.cells in
    let made : carried.accesses ≡ left.accesses = sym (ap (λ (r : Stopped). r.accesses) e) in
    let may : MayAll list_ways draft.cells left.accesses = may_access p draft draft.frame well is in
    let noted = (w.notes whole).1 ∙ ap (λ (l : List Access). notes_after l begun.notes) made in
    let stands = notes_stand draft.cells left.accesses may in
    let cells : new.cells ≡ after draft.cells left.accesses = w.cells ∙ ap (after draft.cells) made in
    let written : new.notes.written ≡ written_cells left.accesses = ap (λ (n : CellNotes). n.written) noted ∙ stands.written in
    let writes : map (value_at new.cells) new.notes.written ≡ last_writes left.accesses =
    (λ i. map (value_at (cells i)) (written i)) ∙ values_are draft.cells left.accesses may in
    λ i. record {
      task = draft.task;
      before = draft.frame;
      after = sym (ap (λ (r : Stopped). r.frame) e) i;
      reads = (ap (λ (n : CellNotes). n.reads) noted ∙ stands.reads) i;
      writes = writes i;
      stop = sym (ap (λ (r : Stopped). r.stop) e) i;
    }
