-- A segment that finishes its task gives it its value, which it keeps.
use Rattle.std.proofs.Common.{◌≡◌, ℕ, suc, ℤ, List, Option, None, Some, refl, sym, ap, ◌∙◌, subst, arith}
use Rattle.std.specs.Prelude.{slice_get, slice_set}
use Rattle.twe_base.specs.Limits.{Bounds}
use Rattle.seg_journal.specs.declared.journal.Entry.{Entry}
use Rattle.seg_journal.specs.declared.journal.End.{End}
use Rattle.seg_journal.specs.declared.moves.Kind.{Kind}
use Rattle.seg_journal.specs.declared.moves.Kind.TheVariants.{Run}
use Rattle.wait_graph.specs.Link.{link_of}
use Rattle.twe_program.specs.Program.{Program}
use Rattle.twe_program.specs.WellFormed.{IsWellFormed}
use Rattle.seg_meaning.specs.declared.frame.Frame.{Frame}
use Rattle.seg_meaning.specs.declared.stop.Stop.{Stop}
use Rattle.seg_meaning.specs.declared.stop.Stop.TheVariants as stops
use Rattle.isolation_laws.specs.soundness.KeepsEffects.{KeepsEffects}
use Rattle.machine_state.specs.declared.state.State.{State}
use Rattle.machine_state.specs.declared.state.TaskRow.{TaskRow}
use Rattle.machine_state.specs.declared.state.TaskStatus.TheVariants.{Done}
use Rattle.machine_state.specs.Changes.{IsDoneWith}
use Rattle.machine_state.specs.Legal.{MayTake}
use Rattle.machine_state.specs.Moves.{done_row, joined_child, ran, result_by_kind, state_after_join, stop_result}
use Rattle.machine_state.specs.Rows.{IsRow}
use Rattle.machine_state.specs.Runs.{Legal, state_after}
use Rattle.machine_state.proofs.standing.Halfway.{halfway}
use Rattle.machine_state.proofs.lists.Places.{got_one, set_same}
use Rattle.machine_state.proofs.standing.Standing.{Stands}
use Rattle.determinism_laws.specs.Frames.{EndsGiveValues, left_at}
use Rattle.determinism_laws.specs.Segments.{IsSegmentOf, state_before}
use Rattle.determinism_laws.proofs.JournalPlaces.{later_at, stands_at, taken_at, value_end}
use Rattle.determinism_laws.proofs.NewTasks.{left_by}

module _ (lim : Bounds) (st : State) (t : ℕ) (row : TaskRow) (frame : Frame) (there : IsRow st t row) (new : TaskRow) (value : ℤ) where
  stopped_value : (stop : Stop) → stop ≡ stops.Done value → IsRow (stop_result lim st t row frame stop).0 t new → (new.value ≡ value) × (new.status ≡ Done)
  stopped_value (stops.Make child args effects spawned future place) is here = absurd (cc (is))
  stopped_value (stops.Waits on) is here = absurd (cc (is))
  stopped_value (stops.Joins on) is here = absurd (cc (is))
  stopped_value (stops.Fault kind place) is here = absurd (cc (is))
  stopped_value (stops.Done other) is here =
      let same : other ≡ value = cc (is) in
      let set : done_row row frame other ≡ new =
      got_one (slice_get (slice_set st.tasks t (done_row row frame other)) t) (set_same st.tasks t row (done_row row frame other) there) here in
      (sym (ap (λ (r : TaskRow). r.value) set) ∙ same, sym (ap (λ (r : TaskRow). r.status) set))

module _ (p : Program) (lim : Bounds) (st : State) (stands : Stands p lim st) (t : ℕ) (may : MayTake st Run t) (row new : TaskRow) (value : ℤ)
    (stop : (left_by p st row).stop ≡ stops.Done value) where
  ran_value : (found : Option TaskRow) → slice_get st.tasks t ≡ found → found ≡ Some row → IsRow (ran p lim st t found).0 t new → (new.value ≡ value) × (new.status ≡ Done)
  ran_value None e is here = absurd (cc (is))
  ran_value (Some other) e is here =
      let same : other ≡ row = cc (is) in
      let left = left_by p st other in
      let later : State = record st { cells = left.cells } in
      let child = joined_child other.out (link_of st.links t).waits in
      stopped_value lim (state_after_join later child) t other left.frame (halfway p lim st stands t other e may.1).almost.own new value left.stop
      (ap (λ (r : TaskRow). (left_by p st r).stop) same ∙ stop) here

module _ (p : Program) (wf : IsWellFormed p) (lim : Bounds) (journal : List Entry) (legal : Legal p lim journal) where
  abbrev st : ℕ → State
  st n = state_before p lim journal n

  ends_with : (u place : ℕ) (segment : IsSegmentOf journal u place) (row : TaskRow) → IsRow (st place) u row → (value : ℤ) → (left_by p (st place) row).stop ≡ stops.Done value
      → IsDoneWith (state_after p lim journal) u value
  ends_with u place segment row there value stop =
      let taken = taken_at p wf lim journal legal place segment.entry segment.there in
      let may = subst (MayTake (st place) Run) segment.task (subst (λ (kind : Kind). MayTake (st place) kind segment.entry.mv.task) segment.runs taken.may) in
      let kept = (later_at p wf lim journal legal place (suc place) (omega arith)).kept u row there in
      let to : result_by_kind p lim (st place) segment.entry.mv.kind segment.entry.mv.task ≡ result_by_kind p lim (st place) Run u =
      λ i. result_by_kind p lim (st place) (segment.runs i) (segment.task i) in
      let here : IsRow (result_by_kind p lim (st place) Run u).0 u kept.now =
      subst (λ (s : State). IsRow s u kept.now) (ap (λ (r : State × End). r.0) to) (subst (λ (s : State). IsRow s u kept.now) taken.leads kept.there) in
      let known = ran_value p lim (st place) (stands_at p wf lim journal legal place) u may row kept.now value stop (slice_get (st place).tasks u) refl there here in
      value_end p wf lim journal legal (suc place) u value (record { row = kept.now; there = kept.there; done = known.1; value_is = known.0 })

pub ends_give_values : (p : Program) → IsWellFormed p → KeepsEffects p → (lim : Bounds) (journal : List Entry) → Legal p lim journal → EndsGiveValues p lim journal
ends_give_values p wf keeps lim journal legal u place frame value starts stop =
    subst (λ (f : Frame). (left_at p lim journal place f).stop ≡ stops.Done value → IsDoneWith (state_after p lim journal) u value) (sym starts.frame_is)
    (λ concrete. ends_with p wf lim journal legal u place starts.segment starts.row starts.there value concrete) stop
