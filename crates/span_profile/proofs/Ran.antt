-- A segment that was run over cells that record their accesses has done what its entry did.
use Rattle.std.proofs.Common.{◌≡◌, ◌+◌, ◌-◌, ◌++◌, ℕ, ℤ, List, [], ◌∷◌, length, refl, sym, ap, ◌∙◌, subst, arith, length-append, nat_lt}
use Rattle.std.proofs.lemmas.Bool.{lt-ltb}
use Rattle.twe_program.specs.Program.{Program, cell_count}
use Rattle.seg_meaning.specs.declared.frame.Frame.{Frame}
use Rattle.seg_meaning.specs.declared.frame.Next.{Next}
use Rattle.seg_meaning.specs.declared.frame.Next.TheVariants.{Go, Get, Join, Closing, Ended}
use Rattle.seg_meaning.specs.declared.stop.Stop.{Stop}
use Rattle.seg_meaning.specs.Access.{Access, Reads, Writes, Prints, printed}
use Rattle.seg_meaning.specs.Giving.{given_by}
use Rattle.seg_meaning.specs.Segment.{CarriesOut, IsSegment, Stopped, flow_of, segment, stopped_by}
use Rattle.seg_meaning.specs.Store.{Flow, goes, returns, fails, stops}
use Rattle.machine_state.specs.declared.state.State.{State}
use Rattle.machine_state.specs.declared.state.TaskRow.{TaskRow}
use Rattle.machine_state.specs.Changes.{next_segment}
use Rattle.machine_state.specs.Moves.{awaited_value, ready_frame}
use Rattle.machine_state.specs.Rows.{row_awaited}
use Rattle.span_profile.specs.declared.deed.Deed.{Deed}
use Rattle.span_profile.specs.declared.watched.WatchedCells.{WatchedCells}
use Rattle.span_profile.specs.inner.Deeds.{HasDone, has_print}
use Rattle.span_profile.specs.inner.Sets.{NumberSet, no_cells}
use Rattle.span_profile.specs.inner.Watch.{WatchFollows, read_by, written_by}
use Rattle.span_profile.proofs.FuelTaken.{ready_fuel}
use Rattle.span_profile.proofs.Watching.{IsWatched, watched_segment}

-- a segment appends what it printed
prints_by : (p : Program) (frame : Frame) (f : Flow) → (stopped_by p frame f).frame.prints ≡ frame.prints ++ printed (stopped_by p frame f).accesses
prints_by p frame (goes s) = refl
prints_by p frame (returns value s) = refl
prints_by p frame (fails kind place s) = refl
prints_by p frame (stops operation positions s) = refl

segment_prints : (p : Program) (frame : Frame) (cells : List ℤ) → (segment p frame cells).frame.prints ≡ frame.prints ++ printed (segment p frame cells).accesses
segment_prints p frame cells = prints_by p frame (flow_of p frame frame.body cells)

some_printed : (accesses : List Access) → nat_lt 0 (length (printed accesses)) ≡ has_print accesses
some_printed [] = refl
some_printed (Reads cell value ∷ earlier) = some_printed earlier
some_printed (Writes cell value ∷ earlier) = some_printed earlier
some_printed (Prints value ∷ earlier) = lt-ltb 0 (length (printed earlier ++ value ∷ [])) (omega (arith, length-append (printed earlier) (value ∷ [])))

ready_prints_by : (next : Next) (frame : Frame) (value : ℤ) → (given_by next frame value).prints ≡ frame.prints
ready_prints_by Go frame value = refl
ready_prints_by (Get on into) frame value = refl
ready_prints_by (Join on into) frame value = refl
ready_prints_by (Closing on) frame value = refl
ready_prints_by Ended frame value = refl

ready_prints : (rows : List TaskRow) (frame : Frame) → (ready_frame rows frame).prints ≡ frame.prints
ready_prints rows frame = ready_prints_by frame.next frame (awaited_value rows (row_awaited frame.next))

-- the segment over the cells of the state, whose values were lent
pub lent : (p : Program) (frame after : Frame) (cells values : List ℤ) (reads writes : NumberSet) (new : WatchedCells) (stop : Stop) → values ≡ cells
    → CarriesOut p WatchFollows frame (record { values = values; reads = reads; writes = writes }) stop after new
    → IsWatched p frame (record { values = cells; reads = reads; writes = writes }) stop after new
lent p frame after cells values reads writes new stop same carried =
    watched_segment p frame after (record { values = cells; reads = reads; writes = writes }) new stop
    (subst (λ (l : List ℤ). CarriesOut p WatchFollows frame (record { values = l; reads = reads; writes = writes }) stop after new) same carried)

pub segment_lent : (p : Program) (frame after : Frame) (cells new_cells : List ℤ) (reads writes : NumberSet) (new : WatchedCells) (stop : Stop) → new_cells ≡ new.values
    → IsWatched p frame (record { values = cells; reads = reads; writes = writes }) stop after new → IsSegment p frame cells stop after new_cells
segment_lent p frame after cells new_cells reads writes new stop back w = subst (IsSegment p frame cells stop after) (sym back) w.segment_is

-- what the entry did
pub has_done : (p : Program) (st : State) (t : ℕ) (row : TaskRow) (deed : Deed) (frame after : Frame) (reads writes : NumberSet) (new watched : WatchedCells) (stop : Stop) → row.frame.prints ≡ []
    → frame ≡ ready_frame st.tasks row.frame → IsWatched p frame (record { values = st.cells; reads = reads; writes = writes }) stop after new
    → reads ≡ no_cells (cell_count p) → writes ≡ no_cells (cell_count p) → watched.reads ≡ new.reads → watched.writes ≡ new.writes
    → deed.task ≡ t → deed.weight ≡ 1 + (frame.fuel - after.fuel) → deed.taken ≡ row_awaited row.frame.next → deed.printed ≡ nat_lt (length frame.prints) (length after.prints)
    → HasDone p st t row deed watched
has_done p st t row deed frame after reads writes new watched stop silent taken w no_reads no_writes same_reads same_writes task weight value print =
    let now : segment p frame st.cells ≡ next_segment p st row = ap (λ (f : Frame). segment p f st.cells) taken in
    let left : after ≡ (next_segment p st row).frame = sym w.segment_is.0 ∙ ap (λ (s : Stopped). s.frame) now in
    let fuel : frame.fuel ≡ row.frame.fuel = ap (λ (f : Frame). f.fuel) taken ∙ ready_fuel st.tasks row.frame in
    let accesses : (segment p frame st.cells).accesses ≡ (next_segment p st row).accesses = ap (λ (s : Stopped). s.accesses) now in
    let none : frame.prints ≡ [] = ap (λ (f : Frame). f.prints) taken ∙ (ready_prints st.tasks row.frame ∙ silent) in
    let prints : after.prints ≡ printed (next_segment p st row).accesses =
    sym (ap (λ (f : Frame). f.prints) w.segment_is.0) ∙ (segment_prints p frame st.cells ∙ (ap (λ (l : List ℤ). l ++ printed (segment p frame st.cells).accesses) none ∙ ap printed accesses)) in
    record {
      task = task;
      weight = weight ∙ (λ i. 1 + (fuel i - (left i).fuel));
      taken = value;
      printed = print ∙ ((λ i. nat_lt (length (none i)) (length (prints i))) ∙ some_printed (next_segment p st row).accesses);
      reads = same_reads ∙ (w.reads ∙ (λ i. read_by (accesses i) (no_reads i)));
      writes = same_writes ∙ (w.writes ∙ (λ i. written_by (accesses i) (no_writes i)));
    }
