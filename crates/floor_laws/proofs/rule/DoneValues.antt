-- The frame of a done task has the task's value.
use Rattle.std.proofs.Common.{◌≡◌, ◌≢◌, ◌⊎◌, ◌+◌, ◌<◌, ◌≤◌, ℕ, zero, suc, ℤ, Bool, true, false, cond, List, [], ◌∷◌, ◌++◌, length, Option, None, Some, refl, sym, ap, subst, ◌∙◌, inl, inr, ⊎_elim, nat_lt, arith}
use Rattle.std.specs.Prelude.{pos, slice_get}
use Rattle.std.proofs.lemmas.Bool.{cases_eq, ltb-false, ltb-true}
use Rattle.std.proofs.lemmas.Option.{slice_get_within}
use Rattle.twe_base.specs.declared.place.Place.{Place}
use Rattle.effect_sets.specs.declared.effects.Summary.{Summary}
use Rattle.twe_base.specs.Limits.{Bounds}
use Rattle.twe_base.specs.declared.fault.FaultKind.TheVariants.{TaskLimit}
use Rattle.seg_journal.specs.declared.journal.End.{End}
use Rattle.seg_journal.specs.declared.journal.End.TheVariants as ends
use Rattle.seg_journal.specs.declared.journal.Entry.{Entry}
use Rattle.seg_journal.specs.declared.moves.Kind.{Kind}
use Rattle.seg_journal.specs.declared.moves.Kind.TheVariants.{Admit, Run}
use Rattle.twe_program.specs.Program.{Program}
use Rattle.twe_program.specs.WellFormed.{IsWellFormed}
use Rattle.seg_meaning.specs.declared.frame.Frame.{Frame}
use Rattle.seg_meaning.specs.declared.operation.Operation.{Operation}
use Rattle.seg_meaning.specs.declared.operation.Operation.TheVariants as operations
use Rattle.seg_meaning.specs.declared.stop.Stop.{Stop}
use Rattle.seg_meaning.specs.declared.stop.Stop.TheVariants as stops
use Rattle.seg_meaning.specs.Entry.{effects_at, entry_frame}
use Rattle.seg_meaning.specs.Segment.{Stopped, closing_stop, flow_of, operation_stop, segment, stopped_by, task_of, waiting_stop}
use Rattle.seg_meaning.specs.Store.{Flow, fails, goes, returns}
use Rattle.seg_meaning.specs.Store as flow
use Rattle.machine_state.specs.declared.state.State.{State}
use Rattle.machine_state.specs.declared.state.TaskRow.{TaskRow}
use Rattle.machine_state.specs.declared.state.TaskStatus.TheVariants as status
use Rattle.machine_state.specs.Changes.{LeavesAlone, made_by}
use Rattle.machine_state.specs.Legal.{MayTake}
use Rattle.machine_state.specs.Moves.{admitted, admitted_row, faulted_row, going_row, making_frame, move_result, new_row, parent_of, ready_frame, result_by_kind, start_of, status_at_start, stopped_frame}
use Rattle.machine_state.specs.Rows.{IsRow}
use Rattle.machine_state.specs.Runs.{IsReached, LegalFrom, entry_of, replayed}
use Rattle.machine_state.proofs.tasks.LeftAlone.{moves_leave_alone}
use Rattle.machine_state.proofs.lists.Places.{below_there, got_one}
use Rattle.machine_state.proofs.standing.ReachedStands.{reached_stands}
use Rattle.machine_state.proofs.replays.Replayed.{run_more}
use Rattle.isolation_laws.proofs.rows.ListElements.{get_set}
use Rattle.floor_laws.specs.rule.Rows.{unmarked}
use Rattle.floor_laws.specs.rule.Steps.{end_after, row_after}
use Rattle.floor_laws.specs.rule.Fitting.{DoneFramesHaveValues}
use Rattle.floor_laws.proofs.rule.Puts.{none_some, some_one}
use Rattle.floor_laws.proofs.rule.EntryLemmas.{child_next, end_next, row_next, stays}

-- A segment that ends its task leaves the value in the frame.

ends_with : (out : List ℕ) (value other : ℤ) → closing_stop out value ≡ stops.Done other → value ≡ other
ends_with [] value other is = cc
ends_with (c ∷ out) value other is = absurd (cc (is))

wait_ends : (join : Bool) (on : ℕ) (value : ℤ) → waiting_stop join on ≡ stops.Done value → ⊥
wait_ends true on value is = cc (is)
wait_ends false on value is = cc (is)

operation_ends : (p : Program) (frame : Frame) (operation : Operation) (value : ℤ) → operation_stop p frame operation ≡ stops.Done value → ⊥
operation_ends p frame (operations.Make future task args spawned place) value is = cc (is)
operation_ends p frame (operations.Wait future join into) value is = wait_ends join (task_of (slice_get frame.futures future)) value is

flow_ends : (p : Program) (frame : Frame) (how : Flow) (value : ℤ) → (stopped_by p frame how).stop ≡ stops.Done value → (stopped_by p frame how).frame.value ≡ value
flow_ends p frame (goes s) value is = ends_with frame.out.items (pos 0) value is
flow_ends p frame (returns other s) value is = ends_with frame.out.items other value is
flow_ends p frame (fails kind place s) value is = absurd (cc (is))
flow_ends p frame (flow.stops operation positions s) value is = absurd (operation_ends p frame operation value is)

segment_ends : (p : Program) (frame : Frame) (cells : List ℤ) (value : ℤ) → (segment p frame cells).stop ≡ stops.Done value → (segment p frame cells).frame.value ≡ value
segment_ends p frame cells value is = flow_ends p frame (flow_of p frame frame.body cells) value is

below_or : (n m : ℕ) → (n < m) ⊎ (m ≤ n)
below_or n m = by (nat_lt n m) refl
  where
    by : (b : Bool) → nat_lt n m ≡ b → (n < m) ⊎ (m ≤ n)
    by true is = inl (ltb-true n m is)
    by false is = inr (ltb-false n m is)

enabled_done : status.Enabled ≡ status.Done → ⊥
enabled_done h = cc

-- the row that a segment leaves
row_has : (lim : Bounds) (asked : ℕ) (row : TaskRow) (frame : Frame) (stop : Stop) → row.status ≡ status.Enabled → ((value : ℤ) → stop ≡ stops.Done value → frame.value ≡ value)
    → (row_after lim asked row frame stop).status ≡ status.Done → (row_after lim asked row frame stop).frame.value ≡ (row_after lim asked row frame stop).value
row_has lim asked row frame (stops.Make child args effects spawned future place) enabled ends is = absurd (made (nat_lt (asked + 1) lim.tasks) is)
  where
    made : (b : Bool) → (cond {A = TaskRow} b (going_row row (making_frame future spawned (asked + 1) frame)) (faulted_row row (stopped_frame frame))).status ≡ status.Done → ⊥
    made true is = enabled_done (sym enabled ∙ is)
    made false is = cc (is)
row_has lim asked row frame (stops.Waits on) enabled ends is = absurd (enabled_done (sym enabled ∙ is))
row_has lim asked row frame (stops.Joins on) enabled ends is = absurd (enabled_done (sym enabled ∙ is))
row_has lim asked row frame (stops.Done value) enabled ends is = ends value refl
row_has lim asked row frame (stops.Fault kind place) enabled ends is = absurd (cc (is))

new_not_done : (parent : Option ℕ) → status_at_start parent ≡ status.Done → ⊥
new_not_done None is = cc (is)
new_not_done (Some q) is = cc (is)

module _ (p : Program) (lim : Bounds) (well : IsWellFormed p) where
  admission_has : (st : State) (t : ℕ) (o : Option TaskRow) → slice_get st.tasks t ≡ o → DoneFramesHaveValues st → DoneFramesHaveValues (admitted st t o)
  admission_has st t None is have u r there done = have u r there done
  admission_has st t (Some row) is have u r there done =
      elim (get_set st.tasks t u (admitted_row row) r there) [
        | inl own ↦ absurd (enabled_done (sym (ap (λ (x : TaskRow). x.status) own.1) ∙ done))
        | inr old ↦ have u r old.1 done
      ]

  module _ (st : State) (reached : IsReached p lim st) (t : ℕ) (may : MayTake st Run t) (have : DoneFramesHaveValues st) where
    abbrev next : State
    next = (result_by_kind p lim st Run t).0

    abbrev row : TaskRow
    row = may.0.0

    there : IsRow st t may.0.0
    there = may.0.1

    enabled : may.0.0.status ≡ status.Enabled
    enabled = may.0.2

    below : t < length st.tasks
    below = slice_get_within st.tasks t may.0.0 may.0.1

    abbrev left : Stopped
    left = segment p (ready_frame st.tasks may.0.0.frame) st.cells

    law : LeavesAlone p st next (record { kind = Run; task = t }) (result_by_kind p lim st Run t).1
    law = moves_leave_alone p lim st (record { kind = Run; task = t }) well reached may

    own_has : (r : TaskRow) → IsRow next t r → r.status ≡ status.Done → r.frame.value ≡ r.value
    own_has r is done =
        let now = row_next p lim st t row there below left refl in
        let same : row_after lim st.asked row left.frame left.stop ≡ r = got_one (slice_get next.tasks t) now is in
        subst (λ (x : TaskRow). x.frame.value ≡ x.value) same
        (row_has lim st.asked row left.frame left.stop enabled (λ value ends. segment_ends p (ready_frame st.tasks row.frame) st.cells value ends) (ap (λ (x : TaskRow). x.status) same ∙ done))

    old_has : (u : ℕ) (r : TaskRow) → u ≢ t → u < length st.tasks → IsRow next u r → r.status ≡ status.Done → r.frame.value ≡ r.value
    old_has u r other made is done =
        let before = below_there st.tasks u made in
        let now = stays p lim st t u before.0 other before.1 in
        let same : now.now ≡ r = got_one (slice_get next.tasks u) now.there is in
        let both : unmarked r ≡ unmarked before.0 = ap unmarked (sym same) ∙ now.same in
        ap (λ (x : TaskRow). x.frame.value) both ∙ (have u before.0 before.1 (sym (ap (λ (x : TaskRow). x.status) both) ∙ done) ∙ ap (λ (x : TaskRow). x.value) (sym both))

    -- a task that is made there is not done
    new_has : (u : ℕ) (r : TaskRow) → length st.tasks ≤ u → IsRow next u r → r.status ≡ status.Done → ⊥
    new_has u r past is done = by left.stop refl
      where
        end_is : (stop : Stop) → left.stop ≡ stop → (result_by_kind p lim st Run t).1 ≡ end_after lim st.asked stop
        end_is stop same = end_next p lim st t row there below left refl ∙ ap (end_after lim st.asked) same

        none_made : (stop : Stop) → left.stop ≡ stop → made_by (end_after lim st.asked stop) ≡ 0 → ⊥
        none_made stop same none =
            let count = law.tasks ∙ ap (λ (n : ℕ). length st.tasks + n) (ap made_by (end_is stop same) ∙ none) in
            let within = slice_get_within next.tasks u r is in
            omega (arith, count, within, past)

        making : (child : Frame) (args : List ℤ) (effects : Summary) (spawned : Bool) (future : ℕ) (place : Place) → left.stop ≡ stops.Make child args effects spawned future place
            → (b : Bool) → nat_lt (st.asked + 1) lim.tasks ≡ b → ⊥
        making child args effects spawned future place same true may =
            let number = (reached_stands p lim st well reached).number (ltb-true (st.asked + 1) lim.tasks may) in
            let made : made_by (end_after lim st.asked (stops.Make child args effects spawned future place)) ≡ 1 =
            ap (λ (b : Bool). made_by (cond {A = End} b (ends.Made (st.asked + 1)) (ends.Fault TaskLimit place))) may in
            let count = law.tasks ∙ ap (λ (n : ℕ). length st.tasks + n) (ap made_by (end_is (stops.Make child args effects spawned future place) same) ∙ made) in
            let within = slice_get_within next.tasks u r is in
            let here : u ≡ st.asked + 1 = omega (arith, count, within, past, number) in
            let child_row = child_next p lim st t row there below left refl child args effects spawned future place same may number in
            let one : new_row lim (st.asked + 1) (parent_of t spawned) child args effects ≡ r = got_one (slice_get next.tasks (st.asked + 1)) child_row (subst (λ (n : ℕ). IsRow next n r) here is) in
            new_not_done (parent_of t spawned) (ap (λ (x : TaskRow). x.status) one ∙ done)
        making child args effects spawned future place same false may =
            none_made (stops.Make child args effects spawned future place) same
            (ap (λ (b : Bool). made_by (cond {A = End} b (ends.Made (st.asked + 1)) (ends.Fault TaskLimit place))) may)

        by : (stop : Stop) → left.stop ≡ stop → ⊥
        by (stops.Make child args effects spawned future place) same = making child args effects spawned future place same (nat_lt (st.asked + 1) lim.tasks) refl
        by (stops.Waits on) same = none_made (stops.Waits on) same refl
        by (stops.Joins on) same = none_made (stops.Joins on) same refl
        by (stops.Done value) same = none_made (stops.Done value) same refl
        by (stops.Fault kind place) same = none_made (stops.Fault kind place) same refl

    run_has : DoneFramesHaveValues (result_by_kind p lim st Run t).0
    run_has u r is done =
        ⊎_elim
        (λ (same : u ≡ t). own_has r (subst (λ (n : ℕ). IsRow next n r) same is) done)
        (λ (other : u ≢ t).
        ⊎_elim
        (λ (made : u < length st.tasks). old_has u r other made is done)
        (λ (past : length st.tasks ≤ u). absurd (new_has u r past is done))
        (below_or u (length st.tasks)))
        (cases_eq u t)

  move_has : (st : State) → IsReached p lim st → (kind : Kind) (t : ℕ) → MayTake st kind t → DoneFramesHaveValues st → DoneFramesHaveValues (result_by_kind p lim st kind t).0
  move_has st reached Admit t may have = admission_has st t (slice_get st.tasks t) refl have
  move_has st reached Run t may have = run_has st reached t may have

  -- over a journal: what has been taken so far, and what is left
  journal_has : (before entries : List Entry) → LegalFrom p lim (start_of p lim) before → LegalFrom p lim (replayed p lim (start_of p lim) before) entries
      → DoneFramesHaveValues (replayed p lim (start_of p lim) before) → DoneFramesHaveValues (replayed p lim (replayed p lim (start_of p lim) before) entries)
  journal_has before [] legal rest have = have
  journal_has before (e ∷ entries) legal rest have =
      let st : State = replayed p lim (start_of p lim) before in
      let reached : IsReached p lim st = record { journal = before; legal = legal; same = refl } in
      let then = run_more p lim before st e.mv (record { legal = legal; same = refl }) rest.0 in
      let entry : entry_of p lim st e.mv ≡ e = ap (λ (end : End). record { mv = e.mv; end = end }) rest.1 in
      let longer : LegalFrom p lim (start_of p lim) (before ++ e ∷ []) = subst (λ (x : Entry). LegalFrom p lim (start_of p lim) (before ++ x ∷ [])) entry then.legal in
      let same : (move_result p lim st e.mv).0 ≡ replayed p lim (start_of p lim) (before ++ e ∷ []) = then.same ∙ ap (λ (x : Entry). replayed p lim (start_of p lim) (before ++ x ∷ [])) entry in
      let now : DoneFramesHaveValues (replayed p lim (start_of p lim) (before ++ e ∷ [])) = subst DoneFramesHaveValues same (move_has st reached e.mv.kind e.mv.task rest.0 have) in
      let rest_now : LegalFrom p lim (replayed p lim (start_of p lim) (before ++ e ∷ [])) entries = subst (λ (s : State). LegalFrom p lim s entries) same rest.2 in
      subst (λ (s : State). DoneFramesHaveValues (replayed p lim s entries)) (sym same) (journal_has (before ++ e ∷ []) entries longer rest_now now)

  start_has : DoneFramesHaveValues (start_of p lim)
  start_has zero r is done = let same : new_row lim 0 None (entry_frame p p.main []) [] (effects_at p p.main []) ≡ r = some_one is in absurd (new_not_done None (ap (λ (x : TaskRow). x.status) same ∙ done))
  start_has (suc u) r is done = absurd (none_some is)

  pub reached_has : (st : State) → IsReached p lim st → DoneFramesHaveValues st
  reached_has st reached = subst DoneFramesHaveValues (sym reached.same) (journal_has [] reached.journal tt reached.legal start_has)
