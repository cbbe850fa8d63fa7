-- A segment of a task that may run keeps the invariant.
use Rattle.std.proofs.Common.{◌≡◌, ◌<◌, ◌+◌, ℕ, ℤ, Bool, true, false, List, length, Option, None, Some, inl, inr, nat_lt, refl, sym, ap, ◌∙◌, subst, arith, if◌then◌else◌}
use Rattle.std.proofs.lemmas.Bool.{ltb-true}
use Rattle.std.proofs.lemmas.Option.{slice_get_within}
use Rattle.twe_base.specs.declared.place.Place.{Place}
use Rattle.seg_journal.specs.declared.journal.End.{End}
use Rattle.seg_journal.specs.declared.journal.End.TheVariants as moves_end
use Rattle.twe_base.specs.declared.fault.FaultKind.TheVariants.{TaskLimit}
use Rattle.twe_base.specs.Limits.{Bounds}
use Rattle.effect_sets.specs.declared.effects.Summary.{Summary}
use Rattle.twe_program.specs.Program.{Program}
use Rattle.twe_program.specs.WellFormed.{IsWellFormed}
use Rattle.seg_meaning.specs.declared.frame.Frame.{Frame}
use Rattle.seg_meaning.specs.declared.frame.Next.{Next}
use Rattle.seg_meaning.specs.declared.frame.Next.TheVariants.{Go, Get, Join, Closing, Ended}
use Rattle.seg_meaning.specs.declared.stop.Stop.{Stop}
use Rattle.seg_meaning.specs.declared.stop.Stop.TheVariants as ends
use Rattle.seg_meaning.specs.Giving.{without}
use Rattle.seg_meaning.specs.Segment.{segment}
use Rattle.effect_check.proofs.Members.{IsIn, in-contains}
use Rattle.isolation_laws.specs.soundness.KeepsEffects.{KeepsEffects}
use Rattle.isolation_laws.specs.soundness.RunsWith.{RunsWith}
use Rattle.isolation_laws.proofs.soundness.Given.{given_runs}
use Rattle.isolation_laws.proofs.soundness.Segments.{segment_later}
use Rattle.machine_state.specs.segment_laws.Keeps.{NextAfter, SegmentKeeps}
use Rattle.machine_state.proofs.segment_laws.SegmentKept.{segment_keeps}
use Rattle.wait_graph.specs.Link.{link_of}
use Rattle.wait_graph.specs.Waiting.{IsDone}
use Rattle.machine_state.specs.declared.state.State.{State}
use Rattle.machine_state.specs.declared.state.TaskRow.{TaskRow}
use Rattle.machine_state.specs.declared.state.TaskStatus.TheVariants.{Enabled}
use Rattle.machine_state.specs.Legal.{MayRun}
use Rattle.machine_state.specs.Moves.{awaited_value, done_row, state_after_fault, state_after_asking, going_row, state_after_make, state_after_storing, state_after_join, joined_child, making_frame, ready_frame, stop_result, stopped_frame}
use Rattle.machine_state.specs.Rows.{IsRow, row_awaited}
use Rattle.machine_state.proofs.lists.Members.{EachOnce, contains_in, without_once, without_other}
use Rattle.machine_state.proofs.standing.Standing.{Stands}
use Rattle.isolation_laws.proofs.frames.AfterSegment.{after, after_out}
use Rattle.isolation_laws.proofs.rows.RowsLater.{Continues}
use Rattle.isolation_laws.proofs.journals.EndsKeep.{kept_faulted, kept_finished, kept_going, kept_limited}
use Rattle.isolation_laws.proofs.frames.Frames.{OnPath, still_out}
use Rattle.isolation_laws.proofs.rows.ListElements.{get_before_added, get_set_within, one_there}
use Rattle.isolation_laws.proofs.rows.JoinedChild.{joined_child_done}
use Rattle.isolation_laws.proofs.journals.Invariant.{Kept, done_alone, done_childless}
use Rattle.isolation_laws.proofs.journals.MakersRow.{length_joined, mid}
use Rattle.isolation_laws.proofs.journals.MakeKeeps.{kept_made, own_row}
use Rattle.isolation_laws.proofs.frames.EndedBody.{some_at_get, some_at_join}
use Rattle.isolation_laws.proofs.frames.AfterWait.{got, joined_one}

-- the cells do not matter for the invariant
kept_cells : (p : Program) (st : State) (cells : List ℤ) → Kept p st → Kept p (record st { cells = cells })
kept_cells p st cells kept = record { runs = kept.runs; within = kept.within; siblings = kept.siblings; paths = kept.paths; isolated = kept.isolated }

stands_cells : (p : Program) (lim : Bounds) (st : State) (cells : List ℤ) → length cells ≡ length st.cells → Stands p lim st → Stands p lim (record st { cells = cells })
stands_cells p lim st cells same stands = record {
  rows = stands.rows;
  links = stands.links;
  cells = same ∙ stands.cells;
  children = stands.children;
  some = stands.some;
  limit = stands.limit;
  number = stands.number;
  asked = stands.asked;
  fault = stands.fault;
  no_fault = stands.no_fault;
}

still_once : (next : Next) (out : List ℕ) → EachOnce out → EachOnce (still_out next out)
still_once Go out once = once
still_once (Get on into) out once = once
still_once (Join on into) out once = without_once out on once
still_once (Closing on) out once = without_once out on once
still_once Ended out once = once

none_twice : (out : List ℕ) (u : ℕ) → EachOnce out → IsIn u (without u out) → ⊥
none_twice out u once here = without_other out u u once (contains_in (without u out) u (in-contains (without u out) u here)) refl

asked_joined : (st : State) (o : Option ℕ) → (state_after_join st o).asked ≡ st.asked
asked_joined st None = refl
asked_joined st (Some child) = refl

module _ (p : Program) (wf : IsWellFormed p) (keeps : KeepsEffects p) (lim : Bounds) (old : State) (old_stands : Stands p lim old) (old_kept : Kept p old)
    (t : ℕ) (row : TaskRow) (is_t : IsRow old t row) (may : MayRun old t) where
  abbrev value : ℤ
  value = awaited_value old.tasks (row_awaited row.frame.next)

  abbrev frame : Frame
  frame = after p row.frame value old.cells

  abbrev stop : Stop
  stop = (segment p (ready_frame old.tasks row.frame) old.cells).stop

  -- the state with the cells after the segment, and the child that is joined
  abbrev st : State
  st = record old { cells = (segment p (ready_frame old.tasks row.frame) old.cells).cells }

  abbrev o : Option ℕ
  o = joined_child row.out (link_of old.links t).waits

  keeping : SegmentKeeps (ready_frame old.tasks row.frame) old.cells (segment p (ready_frame old.tasks row.frame) old.cells)
  keeping = segment_keeps p (ready_frame old.tasks row.frame) old.cells

  kept : Kept p st
  kept = kept_cells p old st.cells old_kept

  stands : Stands p lim st
  stands = stands_cells p lim old st.cells keeping.cells old_stands

  enabled : row.status ≡ Enabled
  enabled = let same = one_there old.tasks t row may.0.0 is_t may.0.1 in ap (λ (r : TaskRow). r.status) same ∙ may.0.2

  done : (child : ℕ) → o ≡ Some child → IsDone old.links child
  done child e = joined_child_done old.links row.out t child may.1 e

  runs : RunsWith p row.args frame
  runs = segment_later p wf keeps row.args (ready_frame old.tasks row.frame) (given_runs p row.args row.frame (old_kept.runs t row is_t) value) old.cells

  once : (u : ℕ) → IsIn u (without u frame.out.items) → ⊥
  once u here =
      let out = after_out p row.frame value old.cells in
      none_twice frame.out.items u (subst EachOnce (sym out) (still_once row.frame.next row.frame.out.items (old_stands.rows t row is_t).frame.once)) here

  next_is : (s : Stop) → stop ≡ s → NextAfter s frame
  next_is s is = subst (λ (x : Stop). NextAfter x frame) is keeping.next

  -- the segment stops at a wait for a value, or at a join of a child
  go_on : ((new : State) → Continues st new → ¬ (frame.body ≡ None) → OnPath p new.tasks frame) → Kept p (state_after_storing (state_after_join st o) t frame (going_row row frame))
  go_on path = kept_going p st kept stands.links (done_childless p lim st stands) o done t row is_t may.1 frame runs path

  waits : (on : ℕ) → stop ≡ ends.Waits on → Kept p (state_after_storing (state_after_join st o) t frame (going_row row frame))
  waits on is =
      let next = next_is (ends.Waits on) is in
      go_on
      (λ new continues some.
      got p st row.frame value old.cells (kept.paths t row is_t (some_at_get p row.frame value old.cells on next.0 next.1)) new continues on next.0 next.1)

  joins : (on : ℕ) → stop ≡ ends.Joins on → Kept p (state_after_storing (state_after_join st o) t frame (going_row row frame))
  joins on is = elim (next_is (ends.Joins on) is) [
    | inl next ↦
        go_on
        (λ new continues some.
        joined_one p st row.frame value old.cells (kept.paths t row is_t (some_at_join p row.frame value old.cells on next.0 next.1)) new continues on next.0 once next.1)
    | inr closing ↦ go_on (λ new continues some. absurd (some closing.body))
  ]

  -- the row of t is the one that was set
  set_row : (changed : TaskRow) (new : Frame) → IsRow (state_after_storing (state_after_join st o) t new changed) t changed
  set_row changed new =
      let here = slice_get_within old.tasks t row is_t in
      get_set_within (state_after_join st o).tasks t changed (omega (arith, length_joined st o))

  is_done : (value_of : ℤ) → stop ≡ ends.Done value_of → Stands p lim (stop_result lim (state_after_join st o) t row frame (ends.Done value_of)).0
      → Kept p (stop_result lim (state_after_join st o) t row frame (ends.Done value_of)).0
  is_done value_of is later =
      let next = next_is (ends.Done value_of) is in
      kept_finished p st kept stands.links (done_childless p lim st stands) o done t row is_t may.1 frame runs value_of next.1 (ap row_awaited next.0)
      (done_alone p lim (stop_result lim (state_after_join st o) t row frame (ends.Done value_of)).0 later t (done_row row frame value_of) (set_row (done_row row frame value_of) frame) refl)

  module _ (child : Frame) (args : List ℤ) (effects : Summary) (spawned : Bool) (future : ℕ) (place : Place) (is : stop ≡ ends.Make child args effects spawned future place) where
    abbrev number : ℕ
    number = (state_after_join st o).asked + 1

    abbrev making : Frame
    making = making_frame future spawned number frame

    abbrev made : State
    made = state_after_make lim (state_after_join st o) t row frame future spawned child args effects

    counted : number < lim.tasks → number ≡ length st.tasks
    counted below =
        let same = asked_joined st o in
        let known : st.asked + 1 ≡ length st.tasks = stands.number (omega (arith, same)) in
        omega (arith, same)

    makes : number < lim.tasks → Stands p lim made → Kept p made
    makes below later =
        let known = own_row p wf keeps lim st stands kept o done (done_childless p lim st stands) t row is_t enabled may.1 value old.cells child args effects spawned future place is number (counted below) in
        let k = kept_made p wf keeps lim st stands kept o done (done_childless p lim st stands) t row is_t enabled may.1 value old.cells child args effects spawned future place is number (counted below)
        later.links
        (λ d b is_d of free.
        (later.children t (going_row row making) (get_before_added (mid st o t row making).tasks _ t (going_row row making) known) d).1
        (record { row = b; there = is_d; parent = of; unjoined = free })) in
        record { runs = k.runs; within = k.within; siblings = k.siblings; paths = k.paths; isolated = k.isolated }

    -- the state after the make, or after a fault if the limit on tasks is reached
    abbrev by_limit : Bool → State × End
    by_limit b = if b then (made, moves_end.Made number) else (state_after_fault (state_after_asking (state_after_join st o)) t row (stopped_frame frame) TaskLimit place, moves_end.Fault TaskLimit place)

    limited : (b : Bool) → nat_lt number lim.tasks ≡ b → Stands p lim (by_limit b).0 → Kept p (by_limit b).0
    limited true e later = makes (ltb-true number lim.tasks e) later
    limited false e later = kept_limited p st kept stands.links (done_childless p lim st stands) o done t row is_t may.1 frame runs TaskLimit place

  after_stop : (s : Stop) → stop ≡ s → Stands p lim (stop_result lim (state_after_join st o) t row frame s).0 → Kept p (stop_result lim (state_after_join st o) t row frame s).0
  after_stop (ends.Make child args effects spawned future place) is later =
      limited child args effects spawned future place is (nat_lt ((state_after_join st o).asked + 1) lim.tasks) refl later
  after_stop (ends.Waits on) is later = waits on is
  after_stop (ends.Joins on) is later = joins on is
  after_stop (ends.Done value_of) is later = is_done value_of is later
  after_stop (ends.Fault kind place) is later =
      kept_faulted p st kept stands.links (done_childless p lim st stands) o done t row is_t may.1 frame runs (next_is (ends.Fault kind place) is).1 kind place

  pub segment_kept : Stands p lim (stop_result lim (state_after_join st o) t row frame stop).0 → Kept p (stop_result lim (state_after_join st o) t row frame stop).0
  segment_kept later = after_stop stop refl later
