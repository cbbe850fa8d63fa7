-- What cells that record their accesses have after a segment.
use Rattle.std.proofs.Common.{◌≡◌, ◌<◌, inl, inr, ℕ, ℤ, List, [], ◌∷◌, length, sym, ap, ◌∙◌, subst}
use Rattle.std.specs.Prelude.{◌↔◌, slice_get, slice_set}
use Rattle.std.specs.List.{Contains}
use Rattle.twe_program.specs.Program.{Program}
use Rattle.seg_meaning.specs.declared.frame.Frame.{Frame}
use Rattle.seg_meaning.specs.declared.stop.Stop.{Stop}
use Rattle.seg_meaning.specs.Access.{Access, Reads, Writes, Prints, Agrees, Follows, MayAll, after, value_in, ways_of}
use Rattle.seg_meaning.specs.Plain.{list_ways}
use Rattle.seg_meaning.specs.Segment.{CarriesOut, IsSegment, MayCarryOut, Stopped, segment}
use Rattle.span_profile.specs.declared.watched.WatchedCells.{WatchedCells}
use Rattle.span_profile.specs.inner.Sets.{no_cells, with_cell}
use Rattle.span_profile.specs.inner.Watch.{MayTouch, WatchFollows, read_by, watch_knows, written_by}
use Rattle.span_profile.proofs.Lists.{contains_cases, contains_first, contains_later, contains_none}
use Rattle.span_profile.proofs.NumberSets.{with_contains}

-- the values are those after the accesses, and the sets have the cells that were accessed
record HasWatched (old : WatchedCells) (accesses : List Access) (new : WatchedCells) : Type 0 where
  agrees : Agrees old.values accesses
  values : new.values ≡ after old.values accesses
  reads : new.reads ≡ read_by accesses old.reads
  writes : new.writes ≡ written_by accesses old.writes

watched_follows : (old : WatchedCells) (accesses : List Access) (new : WatchedCells) → Follows WatchFollows old accesses new → HasWatched old accesses new
watched_follows old [] new is = record {
  agrees = tt;
  values = ap (λ (w : WatchedCells). w.values) is;
  reads = ap (λ (w : WatchedCells). w.reads) is;
  writes = ap (λ (w : WatchedCells). w.writes) is;
}
watched_follows old (Reads cell value ∷ earlier) new is =
    let before = watched_follows old earlier is.0 is.1 in
    record {
      agrees = (before.agrees, ap (λ (l : List ℤ). value_in (slice_get l cell)) (sym before.values) ∙ is.2.1);
      values = ap (λ (w : WatchedCells). w.values) is.2.0 ∙ before.values;
      reads = ap (λ (w : WatchedCells). w.reads) is.2.0 ∙ ap (with_cell cell) before.reads;
      writes = ap (λ (w : WatchedCells). w.writes) is.2.0 ∙ before.writes;
    }
watched_follows old (Writes cell value ∷ earlier) new is =
    let before = watched_follows old earlier is.0 is.1 in
    record {
      agrees = before.agrees;
      values = ap (λ (w : WatchedCells). w.values) is.2 ∙ ap (λ (l : List ℤ). slice_set l cell value) before.values;
      reads = ap (λ (w : WatchedCells). w.reads) is.2 ∙ before.reads;
      writes = ap (λ (w : WatchedCells). w.writes) is.2 ∙ ap (with_cell cell) before.writes;
    }
watched_follows old (Prints value ∷ earlier) new is =
    let before = watched_follows old earlier new is in
    record { agrees = before.agrees; values = before.values; reads = before.reads; writes = before.writes }

-- A segment over such cells is the segment over their values, and the sets have its cells.
pub record IsWatched (p : Program) (frame : Frame) (old : WatchedCells) (stop : Stop) (new_frame : Frame) (new : WatchedCells) : Type 0 where
  pub segment_is : IsSegment p frame old.values stop new_frame new.values
  pub reads : new.reads ≡ read_by (segment p frame old.values).accesses old.reads
  pub writes : new.writes ≡ written_by (segment p frame old.values).accesses old.writes

pub watched_segment : (p : Program) (frame new_frame : Frame) (old new : WatchedCells) (stop : Stop) → CarriesOut p WatchFollows frame old stop new_frame new → IsWatched p frame old stop new_frame new
watched_segment p frame new_frame old new stop h =
    let w = watched_follows old h.accesses new h.follows in
    let e = h.means old.values w.agrees in
    let made : h.accesses ≡ (segment p frame old.values).accesses = sym (ap (λ (r : Stopped). r.accesses) e) in
    record {
      segment_is = (ap (λ (r : Stopped). r.frame) e, ap (λ (r : Stopped). r.cells) e ∙ sym w.values, ap (λ (r : Stopped). r.stop) e);
      reads = w.reads ∙ ap (λ (l : List Access). read_by l old.reads) made;
      writes = w.writes ∙ ap (λ (l : List Access). written_by l old.writes) made;
    }

-- what may be done to a list of values may be done to such cells
may_watch : (w : WatchedCells) (cells : List ℤ) (accesses : List Access) → ((cell : ℕ) → cell < length cells → MayTouch w cell) → MayAll list_ways cells accesses
    → MayAll (ways_of watch_knows MayTouch MayTouch WatchFollows) w accesses
may_watch w cells [] touch may = tt
may_watch w cells (Reads cell value ∷ earlier) touch may = (touch cell may.0, may_watch w cells earlier touch may.1)
may_watch w cells (Writes cell value ∷ earlier) touch may = (touch cell may.0, may_watch w cells earlier touch may.1)
may_watch w cells (Prints value ∷ earlier) touch may = may_watch w cells earlier touch may

pub may_carry_watched : (p : Program) (frame : Frame) (w : WatchedCells) → ((cell : ℕ) → cell < length w.values → MayTouch w cell) → MayCarryOut p list_ways frame w.values
    → MayCarryOut p (ways_of watch_knows MayTouch MayTouch WatchFollows) frame w
may_carry_watched p frame w touch may cells = may_watch w w.values (segment p frame cells).accesses touch (may cells)

-- The cells of the sets are those of the accesses.

abbrev pub ReadsCell : List Access → ℕ → Type 0
ReadsCell accesses cell = (value : ℤ) × Contains accesses (Reads cell value)

abbrev pub WritesCell : List Access → ℕ → Type 0
WritesCell accesses cell = (value : ℤ) × Contains accesses (Writes cell value)

reads_later : (x : Access) (accesses : List Access) (cell : ℕ) → ReadsCell accesses cell → ReadsCell (x ∷ accesses) cell
reads_later x accesses cell r = (r.0, contains_later x (Reads cell r.0) accesses r.1)

writes_later : (x : Access) (accesses : List Access) (cell : ℕ) → WritesCell accesses cell → WritesCell (x ∷ accesses) cell
writes_later x accesses cell r = (r.0, contains_later x (Writes cell r.0) accesses r.1)

pub reads_contain : (accesses : List Access) (size cell : ℕ) → Contains (read_by accesses (no_cells size)).items cell ↔ ReadsCell accesses cell
reads_contain [] size cell = (λ has. absurd (contains_none cell has), λ r. absurd (contains_none (Reads cell r.0) r.1))
reads_contain (Reads n value ∷ earlier) size cell =
    let before = reads_contain earlier size cell in
    let this = with_contains n (read_by earlier (no_cells size)) cell in (
      λ has. elim (this.0 has) [
        | inl old ↦ reads_later (Reads n value) earlier cell (before.0 old)
        | inr same ↦ subst (ReadsCell (Reads n value ∷ earlier)) same (value, contains_first (Reads n value) earlier)
      ],
      λ r. elim (contains_cases (Reads n value) (Reads cell r.0) earlier r.1) [
        | inl same ↦ (let number : n ≡ cell = cc in this.1 (inr number))
        | inr later ↦ this.1 (inl (before.1 (r.0, later)))
      ],
    )
reads_contain (Writes n value ∷ earlier) size cell =
    let before = reads_contain earlier size cell in (
      λ has. reads_later (Writes n value) earlier cell (before.0 has),
      λ r. elim (contains_cases (Writes n value) (Reads cell r.0) earlier r.1) [ inl same ↦ absurd (cc) | inr later ↦ before.1 (r.0, later) ],
    )
reads_contain (Prints value ∷ earlier) size cell =
    let before = reads_contain earlier size cell in (
      λ has. reads_later (Prints value) earlier cell (before.0 has),
      λ r. elim (contains_cases (Prints value) (Reads cell r.0) earlier r.1) [ inl same ↦ absurd (cc) | inr later ↦ before.1 (r.0, later) ],
    )

pub writes_contain : (accesses : List Access) (size cell : ℕ) → Contains (written_by accesses (no_cells size)).items cell ↔ WritesCell accesses cell
writes_contain [] size cell = (λ has. absurd (contains_none cell has), λ r. absurd (contains_none (Writes cell r.0) r.1))
writes_contain (Writes n value ∷ earlier) size cell =
    let before = writes_contain earlier size cell in
    let this = with_contains n (written_by earlier (no_cells size)) cell in (
      λ has. elim (this.0 has) [
        | inl old ↦ writes_later (Writes n value) earlier cell (before.0 old)
        | inr same ↦ subst (WritesCell (Writes n value ∷ earlier)) same (value, contains_first (Writes n value) earlier)
      ],
      λ r. elim (contains_cases (Writes n value) (Writes cell r.0) earlier r.1) [
        | inl same ↦ (let number : n ≡ cell = cc in this.1 (inr number))
        | inr later ↦ this.1 (inl (before.1 (r.0, later)))
      ],
    )
writes_contain (Reads n value ∷ earlier) size cell =
    let before = writes_contain earlier size cell in (
      λ has. writes_later (Reads n value) earlier cell (before.0 has),
      λ r. elim (contains_cases (Reads n value) (Writes cell r.0) earlier r.1) [ inl same ↦ absurd (cc) | inr later ↦ before.1 (r.0, later) ],
    )
writes_contain (Prints value ∷ earlier) size cell =
    let before = writes_contain earlier size cell in (
      λ has. writes_later (Prints value) earlier cell (before.0 has),
      λ r. elim (contains_cases (Prints value) (Writes cell r.0) earlier r.1) [ inl same ↦ absurd (cc) | inr later ↦ before.1 (r.0, later) ],
    )
