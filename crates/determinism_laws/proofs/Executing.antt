-- Each deterministic task that is done at the end has been executed whole. Each of its segments but the last has a next one,
-- and each child that it spawned is deterministic and done, too, and has a first one. All of these stand later in the
-- journal, so the induction is over what is left of it.
use Rattle.std.proofs.Common.{◌≡◌, ◌⊎◌, ◌≤◌, ◌<◌, ◌+◌, ◌++◌, ℕ, zero, suc, ℤ, Bool, true, false, cond, List, [], ◌∷◌, length, Option, None, Some, inl, inr, refl, sym, ap, ◌∙◌, subst, arith, nat_lt}
use Rattle.std.specs.Prelude.{slice_get}
use Rattle.std.proofs.lemmas.Option.{slice_get_within}
use Rattle.twe_base.specs.declared.place.Place.{Place}
use Rattle.effect_sets.specs.declared.effects.Summary.{Summary}
use Rattle.twe_base.specs.declared.fault.FaultKind.TheVariants.{TaskLimit}
use Rattle.twe_base.specs.Limits.{Bounds}
use Rattle.seg_journal.specs.declared.journal.End.{End}
use Rattle.seg_journal.specs.declared.journal.End.TheVariants as entry_ends
use Rattle.seg_journal.specs.declared.journal.Entry.{Entry}
use Rattle.seg_journal.specs.declared.moves.Kind.TheVariants.{Run}
use Rattle.wait_graph.specs.Link.{link_of}
use Rattle.twe_program.specs.Program.{Program}
use Rattle.twe_program.specs.WellFormed.{IsWellFormed}
use Rattle.seg_meaning.specs.declared.frame.Frame.{Frame}
use Rattle.seg_meaning.specs.declared.stop.Stop.{Stop}
use Rattle.seg_meaning.specs.declared.stop.Stop.TheVariants as stops
use Rattle.isolation_laws.specs.soundness.KeepsEffects.{KeepsEffects}
use Rattle.machine_state.specs.segment_laws.Keeps.{NextAfter}
use Rattle.machine_state.proofs.segment_laws.SegmentKept.{segment_keeps}
use Rattle.machine_state.specs.declared.state.State.{State}
use Rattle.machine_state.specs.declared.state.TaskRow.{TaskRow}
use Rattle.machine_state.specs.declared.state.TaskStatus.TheVariants.{Done, Enabled, Faulted}
use Rattle.machine_state.specs.Changes.{made_by, next_segment}
use Rattle.machine_state.specs.Moves.{joined_child, parent_of, ran, ready_frame, result_by_kind, state_after_asking, state_after_fault, state_after_join, state_after_make, status_at_start, stop_result, stopped_frame}
use Rattle.machine_state.specs.Rows.{IsRow}
use Rattle.machine_state.specs.Runs.{Legal, state_after}
use Rattle.machine_state.proofs.tasks.DoneFirst.{children_joined}
use Rattle.machine_state.proofs.tasks.LeftAlone.{moves_leave_alone}
use Rattle.machine_state.proofs.lists.Places.{below_there, got_one}
use Rattle.determinism_laws.specs.Deterministic.{IsDeterministic}
use Rattle.determinism_laws.specs.Execution.{DoneTasksAreExecuted, Execution, IsNextSegment, ends, joins, spawns}
use Rattle.determinism_laws.specs.Orders.{SegmentAccesses}
use Rattle.determinism_laws.specs.Segments.{IsSegmentOf, Spawns, state_before}
use Rattle.determinism_laws.specs.Sequential.{IsSegmentAt}
use Rattle.determinism_laws.proofs.BodyRules.{makes_deterministic, never_gets}
use Rattle.determinism_laws.proofs.Forks.{children_deterministic, same_flag}
use Rattle.determinism_laws.proofs.JournalPlaces.{later_at, later_end, reached_at, stands_at, taken_at}
use Rattle.determinism_laws.proofs.NewTasks.{left_by, move_row}
use Rattle.determinism_laws.proofs.RankLaws.{final_reached, final_stands}
use Rattle.determinism_laws.proofs.Statuses.{StatusAfter, next_segment_of, status_after}
use Rattle.determinism_laws.proofs.Trees.{kept_at, runner}

-- how an entry ends, by how its segment stopped
abbrev EndOf : Stop → End → Type 0
EndOf (stops.Make child args effects spawned future place) end = ((number : ℕ) × (end ≡ entry_ends.Made number)) ⊎ (end ≡ entry_ends.Fault TaskLimit place)
EndOf (stops.Waits on) end = end ≡ entry_ends.Waits on
EndOf (stops.Joins on) end = end ≡ entry_ends.Joins on
EndOf (stops.Done value) end = end ≡ entry_ends.Done value
EndOf (stops.Fault kind place) end = end ≡ entry_ends.Fault kind place

module _ (lim : Bounds) (st : State) (t : ℕ) (row : TaskRow) (frame : Frame) where
  made_end : (b : Bool) → (child : Frame) (args : List ℤ) (effects : Summary) (spawned : Bool) (future : ℕ) (place : Place)
      → EndOf (stops.Make child args effects spawned future place)
      (cond {A = State × End} b (state_after_make lim st t row frame future spawned child args effects, entry_ends.Made (st.asked + 1))
      (state_after_fault (state_after_asking st) t row (stopped_frame frame) TaskLimit place, entry_ends.Fault TaskLimit place)).1
  made_end true child args effects spawned future place = inl (st.asked + 1, refl)
  made_end false child args effects spawned future place = inr refl

  stop_end : (stop : Stop) → EndOf stop (stop_result lim st t row frame stop).1
  stop_end (stops.Make child args effects spawned future place) = made_end (nat_lt (st.asked + 1) lim.tasks) child args effects spawned future place
  stop_end (stops.Waits on) = refl
  stop_end (stops.Joins on) = refl
  stop_end (stops.Done value) = refl
  stop_end (stops.Fault kind place) = refl

ran_end : (p : Program) (lim : Bounds) (st : State) (t : ℕ) (row : TaskRow) (found : Option TaskRow) → slice_get st.tasks t ≡ found → found ≡ Some row
    → EndOf (left_by p st row).stop (ran p lim st t found).1
ran_end p lim st t row None e is = absurd (cc (is))
ran_end p lim st t row (Some other) e is =
    let same : other ≡ row = cc (is) in
    let left = left_by p st other in
    let later : State = record st { cells = left.cells } in
    subst (λ (r : TaskRow). EndOf (left_by p st r).stop (ran p lim st t (Some other)).1) same
    (stop_end lim (state_after_join later (joined_child other.out (link_of st.links t).waits)) t other left.frame left.stop)

module _ (p : Program) (wf : IsWellFormed p) (keeps : KeepsEffects p) (lim : Bounds) (journal : List Entry) (legal : Legal p lim journal) where
  abbrev st : ℕ → State
  st n = state_before p lim journal n

  abbrev final : State
  final = state_after p lim journal

  -- task u is deterministic, and done at the end
  record IsDue (u : ℕ) : Type 0 where
    row : TaskRow
    there : IsRow final u row
    done : row.status ≡ Done
    flag : IsDeterministic p row

  -- a segment of u, with the row before it
  record SegmentStands (u place : ℕ) : Type 0 where
    segment : IsSegmentOf journal u place
    row : TaskRow
    there : IsRow (st place) u row
    enabled : row.status ≡ Enabled
    flag : IsDeterministic p row
    end : EndOf (left_by p (st place) row).stop segment.entry.end

  stands_there : (u place : ℕ) → IsDue u → IsSegmentOf journal u place → SegmentStands u place
  stands_there u place due segment =
      let may = runner p wf keeps lim journal legal u place segment in
      let taken = taken_at p wf lim journal legal place segment.entry segment.there in
      let kept = (later_end p wf lim journal legal place).kept u may.0.0 may.0.1 in
      let same : due.row ≡ kept.now = got_one (slice_get final.tasks u) due.there kept.there in
      let decl : due.row.decl ≡ may.0.0.decl = ap (λ (r : TaskRow). r.decl) same ∙ kept.decl in
      let to : result_by_kind p lim (st place) segment.entry.mv.kind segment.entry.mv.task ≡ result_by_kind p lim (st place) Run u =
      λ i. result_by_kind p lim (st place) (segment.runs i) (segment.task i) in
      record {
        segment = segment;
        row = may.0.0;
        there = may.0.1;
        enabled = may.0.2;
        flag = same_flag p due.row may.0.0 decl due.flag;
        end = subst (EndOf (left_by p (st place) may.0.0).stop) (sym (ap (λ (r : State × End). r.1) to) ∙ taken.end)
            (ran_end p lim (st place) u may.0.0 (slice_get (st place).tasks u) refl may.0.1);
      }

  -- the row of u after its segment
  row_after_segment : (u place : ℕ) → IsSegmentOf journal u place → (row : TaskRow) → IsRow (st place) u row → (new : TaskRow) × IsRow (st (suc place)) u new
  row_after_segment u place segment row there = let kept = (later_at p wf lim journal legal place (suc place) (omega arith)).kept u row there in (kept.now, kept.there)

  -- if the segment keeps the status of u, there is a next one
  next_of : (u place : ℕ) → IsDue u → (at : SegmentStands u place) → ((row new : TaskRow) → IsRow (st place) u row → IsRow (st (suc place)) u new → new.status ≡ row.status)
      → (next : ℕ) × IsNextSegment journal u (suc place) next
  next_of u place due at keeps_status =
      let new = row_after_segment u place at.segment at.row at.there in
      let status : new.0.status ≡ Enabled = keeps_status at.row new.0 at.there new.1 ∙ at.enabled in
      let found = next_segment_of p wf lim journal legal u (suc place) Enabled (λ e. cc (e)) (λ e. cc (e)) (new.0, new.1, status) (due.row, due.there, due.done) in
      (found.0, found.1)

  -- after a fault there is none
  no_fault : (u place : ℕ) → IsDue u → (at : SegmentStands u place) → ((row new : TaskRow) → IsRow (st place) u row → IsRow (st (suc place)) u new → new.status ≡ Faulted) → ⊥
  no_fault u place due at faults =
      let new = row_after_segment u place at.segment at.row at.there in
      let status = faults at.row new.0 at.there new.1 in
      let found = next_segment_of p wf lim journal legal u (suc place) Faulted (λ e. cc (e)) (λ e. cc (e)) (new.0, new.1, status) (due.row, due.there, due.done) in
      let may = runner p wf keeps lim journal legal u found.0 found.1.segment in
      let same : found.2.0 ≡ may.0.0 = got_one (slice_get (st found.0).tasks u) found.2.1 may.0.1 in
      let both : Faulted ≡ Enabled = sym found.2.2 ∙ (ap (λ (r : TaskRow). r.status) same ∙ may.0.2) in
      cc (both)

  -- a child that the segment spawned
  record HasSpawned (u place child : ℕ) : Type 0 where
    spawn : Spawns p lim journal u place child
    due : IsDue child
    first : ℕ
    next : IsNextSegment journal child (suc place) first

  spawned_child : (u place child : ℕ) → IsDue u → (at : SegmentStands u place) → at.segment.entry.end ≡ entry_ends.Made child → child < length (st (suc place)).tasks
      → length (st place).tasks ≤ child → HasSpawned u place child
  spawned_child u place child due at made room past =
      let taken = taken_at p wf lim journal legal place at.segment.entry at.segment.there in
      let found = below_there (st (suc place)).tasks child room in
      let here = subst (λ (s : State). IsRow s child found.0) taken.leads found.1 in
      let new = move_row p lim (st place) (stands_at p wf lim journal legal place) at.segment.entry.mv.task at.segment.entry.mv.kind child past found.0 here in
      let makes = new.makes in
      let own : IsRow (st place) u new.row = subst (λ (n : ℕ). IsRow (st place) n new.row) at.segment.task new.there in
      let same : at.row ≡ new.row = got_one (slice_get (st place).tasks u) at.there own in
      let flag : IsDeterministic p new.row = subst (IsDeterministic p) same at.flag in
      let only = makes_deterministic p keeps lim (st place) (stands_at p wf lim journal legal place) (kept_at p wf keeps lim journal legal place) u new.row own flag
      makes.child makes.args makes.effects makes.spawned makes.future makes.place makes.stops_at in
      let parent : found.0.parent ≡ Some u = makes.parent ∙ (ap (parent_of at.segment.entry.mv.task) only.0 ∙ ap (λ (n : ℕ). Some n) at.segment.task) in
      let status : found.0.status ≡ Enabled = makes.status ∙ ap (λ (b : Bool). status_at_start (parent_of at.segment.entry.mv.task b)) only.0 in
      let kept = (later_end p wf lim journal legal (suc place)).kept child found.0 found.1 in
      let final_parent : kept.now.parent ≡ Some u = kept.parent ∙ parent in
      let joined = children_joined p final wf (lim, final_reached p wf keeps lim journal legal) u child due.row kept.now due.there kept.there final_parent due.done in
      let done = ((final_stands p wf keeps lim journal legal).rows child kept.now kept.there).joined joined in
      let child_flag = children_deterministic p wf keeps lim final (final_reached p wf keeps lim journal legal) child u kept.now due.row kept.there due.there final_parent due.flag in
      let next = next_segment_of p wf lim journal legal child (suc place) Enabled (λ e. cc (e)) (λ e. cc (e)) (found.0, found.1, status) (kept.now, kept.there, done) in
      record {
        spawn = record { segment = at.segment; made = made; child = kept.now; there = kept.there; parent = final_parent };
        due = record { row = kept.now; there = kept.there; done = done; flag = child_flag };
        first = next.0;
        next = next.1;
      }

  -- The execution from a segment on.

  abbrev Executed : ℕ → ℕ → Type 0
  Executed u place = (executed : List SegmentAccesses) × Execution p lim journal u place executed

  segment_here : (u place : ℕ) → SegmentStands u place → SegmentAccesses
  segment_here u place at = record { key = place; accesses = (next_segment p (st place) at.row).accesses }

  is_here : (u place : ℕ) (at : SegmentStands u place) → IsSegmentAt p lim journal place (segment_here u place at)
  unfolding segment_here
  is_here u place at = record { task = u; segment = at.segment; row = at.row; there = at.there; key = refl; accesses = refl }

  -- the number of a task that was made
  room_for : (u place child : ℕ) → (at : SegmentStands u place) → at.segment.entry.end ≡ entry_ends.Made child
      → (child < length (st (suc place)).tasks) × (length (st place).tasks ≤ child)
  room_for u place child at made =
      let taken = taken_at p wf lim journal legal place at.segment.entry at.segment.there in
      let alone = moves_leave_alone p lim (st place) at.segment.entry.mv wf (reached_at p wf lim journal legal place) taken.may in
      let number = alone.made child (taken.end ∙ made) in
      let longer : length (st (suc place)).tasks ≡ length (st place).tasks + 1 =
      ap (λ (s : State). length s.tasks) taken.leads ∙ (alone.tasks ∙ ap (λ (end : End). length (st place).tasks + made_by end) (taken.end ∙ made)) in
      (omega (arith, number, longer), omega (arith, number))

  status_by : (u place : ℕ) (at : SegmentStands u place) (end : End) → at.segment.entry.end ≡ end → (row new : TaskRow) → IsRow (st place) u row → IsRow (st (suc place)) u new
      → StatusAfter row.status end new.status
  status_by u place at end is row new there here =
      subst (λ (e : End). StatusAfter row.status e new.status) is (status_after p wf lim journal legal u place at.segment row new there here)

  module _ (u place : ℕ) (due : IsDue u) (at : SegmentStands u place) (rest : (v n : ℕ) → place < n → IsDue v → IsSegmentOf journal v n → Executed v n) where
    after_make : (child : ℕ) → at.segment.entry.end ≡ entry_ends.Made child → Executed u place
    after_make child made =
        let room = room_for u place child at made in
        let spawned = spawned_child u place child due at made room.0 room.1 in
        let below = rest child spawned.first (omega (arith, spawned.next.least)) spawned.due spawned.next.segment in
        let next = next_of u place due at (λ row new there here. status_by u place at (entry_ends.Made child) made row new there here) in
        let others = rest u next.0 (omega (arith, next.1.least)) due next.1.segment in (
          segment_here u place at ∷ below.0 ++ others.0,
          spawns u place child spawned.first next.0 (segment_here u place at) below.0 others.0 spawned.spawn (is_here u place at) spawned.next below.1 next.1 others.1,
        )

    by_stop : (stop : Stop) → (left_by p (st place) at.row).stop ≡ stop → EndOf stop at.segment.entry.end → Executed u place
    by_stop (stops.Make child args effects spawned future fault_place) is (inl made) = after_make made.0 made.1
    by_stop (stops.Make child args effects spawned future fault_place) is (inr fault) =
        absurd (no_fault u place due at (λ row new there here. status_by u place at (entry_ends.Fault TaskLimit fault_place) fault row new there here))
    by_stop (stops.Waits on) is end =
        let next = subst (λ (s : Stop). NextAfter s (left_by p (st place) at.row).frame) is (segment_keeps p (ready_frame (st place).tasks at.row.frame) (st place).cells).next in
        absurd (never_gets p keeps lim (st place) (stands_at p wf lim journal legal place) (kept_at p wf keeps lim journal legal place) u at.row at.there at.flag on next.0 next.1)
    by_stop (stops.Joins on) is end =
        let next = next_of u place due at (λ row new there here. status_by u place at (entry_ends.Joins on) end row new there here) in
        let others = rest u next.0 (omega (arith, next.1.least)) due next.1.segment in
        (segment_here u place at ∷ others.0, joins u place on next.0 (segment_here u place at) others.0 at.segment (is_here u place at) end next.1 others.1)
    by_stop (stops.Done value) is end = (segment_here u place at ∷ [], ends u place (segment_here u place at) value at.segment (is_here u place at) end)
    by_stop (stops.Fault kind fault_place) is end =
        absurd (no_fault u place due at (λ row new there here. status_by u place at (entry_ends.Fault kind fault_place) end row new there here))

  executed_from : (fuel u place : ℕ) → length journal ≤ place + fuel → IsDue u → IsSegmentOf journal u place → Executed u place
  executed_from zero u place le due segment =
      let within = slice_get_within journal place segment.entry segment.there in absurd (omega (arith, le, within))
  executed_from (suc fuel) u place le due segment =
      let at = stands_there u place due segment in
      by_stop u place due at (λ v n later due_v segment_v. executed_from fuel v n (omega (arith, le, later)) due_v segment_v)
      (left_by p (st place) at.row).stop refl at.end

  pub done_tasks_executed : DoneTasksAreExecuted p lim journal
  done_tasks_executed u place row there done flag segment =
      executed_from (length journal) u place (omega arith) (record { row = row; there = there; done = done; flag = flag }) segment
