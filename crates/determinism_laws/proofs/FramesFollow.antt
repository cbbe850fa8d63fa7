-- The frame from which a segment starts is the one that the segment of its task before it left.
use Rattle.std.proofs.Common.{◌≡◌, ◌≢◌, ℕ, suc, ℤ, Bool, List, Some, inl, inr, refl, sym, ap, ◌∙◌, subst, arith}
use Rattle.std.specs.Prelude.{slice_get}
use Rattle.twe_base.specs.declared.place.Place.{Place}
use Rattle.effect_sets.specs.declared.effects.Summary.{Summary}
use Rattle.twe_base.specs.declared.fault.FaultKind.TheVariants.{TaskLimit}
use Rattle.twe_base.specs.Limits.{Bounds}
use Rattle.seg_journal.specs.declared.journal.End.{End}
use Rattle.seg_journal.specs.declared.journal.End.TheVariants as entry_ends
use Rattle.seg_journal.specs.declared.journal.Entry.{Entry}
use Rattle.seg_journal.specs.declared.moves.Kind.{Kind}
use Rattle.seg_journal.specs.declared.moves.Kind.TheVariants.{Run}
use Rattle.twe_program.specs.Program.{Program}
use Rattle.twe_program.specs.WellFormed.{IsWellFormed}
use Rattle.seg_meaning.specs.declared.frame.Frame.{Frame}
use Rattle.seg_meaning.specs.declared.frame.Next.{Next}
use Rattle.seg_meaning.specs.declared.frame.Next.TheVariants.{Go}
use Rattle.seg_meaning.specs.declared.stop.Stop.{Stop}
use Rattle.seg_meaning.specs.declared.stop.Stop.TheVariants as stops
use Rattle.seg_meaning.specs.Giving.{given, given_by}
use Rattle.isolation_laws.specs.soundness.KeepsEffects.{KeepsEffects}
use Rattle.machine_state.specs.segment_laws.Keeps.{NextAfter}
use Rattle.machine_state.proofs.segment_laws.SegmentKept.{segment_keeps}
use Rattle.wait_graph.specs.declared.tasks.Link.{Link}
use Rattle.wait_graph.proofs.WaitingLemmas.{WaitsForNobody-waits}
use Rattle.machine_state.specs.declared.state.State.{State}
use Rattle.machine_state.specs.declared.state.TaskRow.{TaskRow}
use Rattle.machine_state.specs.declared.state.TaskStatus.{TaskStatus}
use Rattle.machine_state.specs.declared.state.TaskStatus.TheVariants.{Enabled, Made}
use Rattle.machine_state.specs.Changes.{IsDoneWith}
use Rattle.machine_state.specs.Legal.{MayTake}
use Rattle.machine_state.specs.Moves.{awaited_value, frame_without_prints, making_frame, ready_frame, result_by_kind, value_of}
use Rattle.machine_state.specs.Rows.{IsRow, row_awaited}
use Rattle.machine_state.specs.Runs.{Legal, state_after}
use Rattle.machine_state.proofs.lists.Places.{got_one}
use Rattle.isolation_laws.proofs.rows.LinksOfRows.{done_row, link_there}
use Rattle.determinism_laws.specs.Execution.{IsNextSegment}
use Rattle.determinism_laws.specs.Frames.{JoinsTakeValues, MakersGoOn, StartsFrom, left_at}
use Rattle.determinism_laws.specs.Segments.{IsSegmentOf, state_before}
use Rattle.determinism_laws.proofs.JournalPlaces.{later_at, stands_at, taken_at, value_end}
use Rattle.determinism_laws.proofs.NewTasks.{FrameAfter, left_by, move_frame}
use Rattle.determinism_laws.proofs.RowsBetween.{rows_stay}
use Rattle.determinism_laws.proofs.Statuses.{StatusAfter, status_after}
use Rattle.determinism_laws.proofs.Trees.{runner}

-- an admitted task does not become one that is not
still_admitted : (end : End) (status : TaskStatus) → StatusAfter Enabled end status → status ≢ Made
still_admitted (entry_ends.Done value) status is made = cc (is, made)
still_admitted (entry_ends.Fault kind place) status is made = cc (is, made)
still_admitted entry_ends.Admitted status is made = cc (is, made)
still_admitted (entry_ends.Made child) status is made = cc (is, made)
still_admitted (entry_ends.Waits on) status is made = cc (is, made)
still_admitted (entry_ends.Joins on) status is made = cc (is, made)

module _ (p : Program) (wf : IsWellFormed p) (keeps : KeepsEffects p) (lim : Bounds) (journal : List Entry) (legal : Legal p lim journal)
    (u place next : ℕ) (segment : IsSegmentOf journal u place) (row : TaskRow) (there : IsRow (state_before p lim journal place) u row) (is_next : IsNextSegment journal u (suc place) next) where
  abbrev st : ℕ → State
  st n = state_before p lim journal n

  abbrev left : Frame
  left = (left_by p (st place) row).frame

  now : (new : TaskRow) × IsRow (st (suc place)) u new
  now = let kept = (later_at p wf lim journal legal place (suc place) (omega arith)).kept u row there in (kept.now, kept.there)

  enabled : row.status ≡ Enabled
  enabled =
      let may = runner p wf keeps lim journal legal u place segment in
      ap (λ (r : TaskRow). r.status) (got_one (slice_get (st place).tasks u) there may.0.1) ∙ may.0.2

  admitted : now.0.status ≢ Made
  admitted =
      still_admitted segment.entry.end now.0.status
      (subst (λ (s : TaskStatus). StatusAfter s segment.entry.end now.0.status) enabled (status_after p wf lim journal legal u place segment row now.0 there now.1))

  -- the row of the next segment
  next_row : IsRow (st next) u now.0
  next_row = rows_stay p wf keeps lim journal legal u (suc place) next now.0 is_next admitted now.1

  -- its frame
  own_frame : FrameAfter (left_by p (st place) row).stop left segment.entry.end now.0
  own_frame =
      let taken = taken_at p wf lim journal legal place segment.entry segment.there in
      let may = subst (MayTake (st place) Run) segment.task (subst (λ (kind : Kind). MayTake (st place) kind segment.entry.mv.task) segment.runs taken.may) in
      let to : result_by_kind p lim (st place) segment.entry.mv.kind segment.entry.mv.task ≡ result_by_kind p lim (st place) Run u =
      λ i. result_by_kind p lim (st place) (segment.runs i) (segment.task i) in
      let here : IsRow (result_by_kind p lim (st place) Run u).0 u now.0 =
      subst (λ (s : State). IsRow s u now.0) (ap (λ (r : State × End). r.0) to) (subst (λ (s : State). IsRow s u now.0) taken.leads now.1) in
      subst (λ (e : End). FrameAfter (left_by p (st place) row).stop left e now.0) (sym (ap (λ (r : State × End). r.1) to) ∙ taken.end)
      (move_frame p lim (st place) (stands_at p wf lim journal legal place) u Run may row now.0 there here)

  next_is : (stop : Stop) → (left_by p (st place) row).stop ≡ stop → NextAfter stop left
  next_is stop is = subst (λ (s : Stop). NextAfter s left) is (segment_keeps p (ready_frame (st place).tasks row.frame) (st place).cells).next

  -- after a join
  awaits : (on : ℕ) → (left_by p (st place) row).stop ≡ stops.Joins on → row_awaited left.next ≡ Some on
  awaits on is = elim (next_is (stops.Joins on) is) [
    | inl join ↦ ap row_awaited join.1
    | inr closing ↦ ap row_awaited closing.next
  ]

  taken_value : (on : ℕ) (value : ℤ) → row_awaited now.0.frame.next ≡ Some on → IsDoneWith (state_after p lim journal) on value
      → awaited_value (st next).tasks (row_awaited now.0.frame.next) ≡ value
  taken_value on value waits done =
      let stands = stands_at p wf lim journal legal next in
      let may = runner p wf keeps lim journal legal u next is_next.segment in
      let link = ap (λ (l : Link). l.waits) (link_there (st next) stands.links u now.0 next_row) ∙ waits in
      let finished = done_row (st next) stands.links on ((WaitsForNobody-waits (st next).links u).0 may.1 on link) in
      let last = value_end p wf lim journal legal next on finished.0.value (record { row = finished.0; there = finished.1; done = finished.2; value_is = refl }) in
      let same : last.row ≡ done.row = got_one (slice_get (state_after p lim journal).tasks on) last.there done.there in
      ap (awaited_value (st next).tasks) waits ∙ (ap value_of finished.1 ∙ (sym last.value_is ∙ (ap (λ (r : TaskRow). r.value) same ∙ done.value_is)))

  joins_on : (on : ℕ) (value : ℤ) → (left_by p (st place) row).stop ≡ stops.Joins on → IsDoneWith (state_after p lim journal) on value
      → StartsFrom p lim journal u next (given (frame_without_prints left) value)
  joins_on on value stop done =
      let frame : now.0.frame ≡ frame_without_prints left = subst (λ (s : Stop). FrameAfter s left segment.entry.end now.0) stop own_frame in
      let waits : row_awaited now.0.frame.next ≡ Some on = ap (λ (f : Frame). row_awaited f.next) frame ∙ awaits on stop in
      let taken = taken_value on value waits done in
      record { segment = is_next.segment; row = now.0; there = next_row; frame_is = sym (λ i. given (frame i) (taken i)) }

  -- after a make

  made_by : (child : ℕ) (made : Frame) (args : List ℤ) (effects : Summary) (spawned : Bool) (future : ℕ) (fault_place : Place)
      → (left_by p (st place) row).stop ≡ stops.Make made args effects spawned future fault_place → segment.entry.end ≡ entry_ends.Made child
      → FrameAfter (stops.Make made args effects spawned future fault_place) left segment.entry.end now.0
      → StartsFrom p lim journal u next (making_frame future spawned child (frame_without_prints left))
  made_by child made args effects spawned future fault_place stop end (inr faulted) =
      let both : entry_ends.Made child ≡ entry_ends.Fault TaskLimit fault_place = sym end ∙ faulted.2 in absurd (cc (both))
  made_by child made args effects spawned future fault_place stop end (inl after) =
      let both : entry_ends.Made after.0 ≡ entry_ends.Made child = sym after.2 ∙ end in
      let number : after.0 ≡ child = cc (both) in
      let frame : now.0.frame ≡ making_frame future spawned child (frame_without_prints left) =
      after.1 ∙ ap (λ (n : ℕ). making_frame future spawned n (frame_without_prints left)) number in
      let go : now.0.frame.next ≡ Go = ap (λ (f : Frame). f.next) after.1 ∙ next_is (stops.Make made args effects spawned future fault_place) stop in
      let value = awaited_value (st next).tasks (row_awaited now.0.frame.next) in
      let ready : ready_frame (st next).tasks now.0.frame ≡ now.0.frame = ap (λ (n : Next). given_by n now.0.frame value) go in
      record { segment = is_next.segment; row = now.0; there = next_row; frame_is = sym (ready ∙ frame) }

  makes_on : (child : ℕ) (made : Frame) (args : List ℤ) (effects : Summary) (spawned : Bool) (future : ℕ) (fault_place : Place)
      → (left_by p (st place) row).stop ≡ stops.Make made args effects spawned future fault_place → segment.entry.end ≡ entry_ends.Made child
      → StartsFrom p lim journal u next (making_frame future spawned child (frame_without_prints left))
  makes_on child made args effects spawned future fault_place stop end =
      made_by child made args effects spawned future fault_place stop end (subst (λ (s : Stop). FrameAfter s left segment.entry.end now.0) stop own_frame)

pub joins_take_values : (p : Program) → IsWellFormed p → KeepsEffects p → (lim : Bounds) (journal : List Entry) → Legal p lim journal → JoinsTakeValues p lim journal
joins_take_values p wf keeps lim journal legal u place next on frame value starts stop is_next done =
    subst (λ (f : Frame). (left_at p lim journal place f).stop ≡ stops.Joins on → StartsFrom p lim journal u next (given (frame_without_prints (left_at p lim journal place f).frame) value))
    (sym starts.frame_is)
    (λ concrete. joins_on p wf keeps lim journal legal u place next starts.segment starts.row starts.there is_next on value concrete done) stop

pub makers_go_on : (p : Program) → IsWellFormed p → KeepsEffects p → (lim : Bounds) (journal : List Entry) → Legal p lim journal → MakersGoOn p lim journal
makers_go_on p wf keeps lim journal legal u place next child frame made args effects spawned future fault_place starts stop end is_next =
    subst
    (λ (f : Frame). (left_at p lim journal place f).stop ≡ stops.Make made args effects spawned future fault_place
    → StartsFrom p lim journal u next (making_frame future spawned child (frame_without_prints (left_at p lim journal place f).frame)))
    (sym starts.frame_is)
    (λ concrete.
    makes_on p wf keeps lim journal legal u place next starts.segment starts.row starts.there is_next child made args effects spawned future fault_place concrete end)
    stop
