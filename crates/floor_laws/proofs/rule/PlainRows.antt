-- A task that is not done has the value 0, and a task that was not spawned was not joined.
use Rattle.std.proofs.Common.{◌≡◌, ◌≢◌, ◌⊎◌, ◌+◌, ◌<◌, ◌≤◌, ℕ, zero, suc, ℤ, Bool, true, false, cond, List, [], length, Option, None, Some, refl, sym, ap, subst, ◌∙◌, inl, inr, ⊎_elim, nat_lt, arith}
use Rattle.std.specs.Prelude.{pos, slice_get}
use Rattle.std.proofs.lemmas.Bool.{cases_eq, ltb-false, ltb-true}
use Rattle.std.proofs.lemmas.Option.{slice_get_within}
use Rattle.twe_base.specs.declared.place.Place.{Place}
use Rattle.effect_sets.specs.declared.effects.Summary.{Summary}
use Rattle.twe_base.specs.Limits.{Bounds}
use Rattle.twe_base.specs.declared.fault.FaultKind.TheVariants.{TaskLimit}
use Rattle.seg_journal.specs.declared.journal.End.{End}
use Rattle.seg_journal.specs.declared.journal.End.TheVariants as ends
use Rattle.seg_journal.specs.declared.journal.Entry.{Entry}
use Rattle.seg_journal.specs.declared.moves.Kind.{Kind}
use Rattle.seg_journal.specs.declared.moves.Kind.TheVariants.{Admit, Run}
use Rattle.twe_program.specs.Program.{Program}
use Rattle.twe_program.specs.WellFormed.{IsWellFormed}
use Rattle.seg_meaning.specs.declared.frame.Frame.{Frame}
use Rattle.seg_meaning.specs.declared.stop.Stop.{Stop}
use Rattle.seg_meaning.specs.declared.stop.Stop.TheVariants as stops
use Rattle.seg_meaning.specs.Entry.{effects_at, entry_frame}
use Rattle.seg_meaning.specs.Segment.{Stopped, segment}
use Rattle.machine_state.specs.declared.state.State.{State}
use Rattle.machine_state.specs.declared.state.TaskRow.{TaskRow}
use Rattle.machine_state.specs.declared.state.TaskStatus.TheVariants as status
use Rattle.machine_state.specs.Changes.{LeavesAlone, made_by}
use Rattle.machine_state.specs.Legal.{MayTake}
use Rattle.machine_state.specs.Moves.{admitted, admitted_row, faulted_row, going_row, joined_row, making_frame, new_row, parent_of, ready_frame, result_by_kind, start_of, stopped_frame}
use Rattle.machine_state.specs.Rows.{HasStatus, IsRow}
use Rattle.machine_state.specs.Runs.{IsReached}
use Rattle.machine_state.proofs.tasks.LeftAlone.{moves_leave_alone}
use Rattle.machine_state.proofs.tasks.OtherRows.{row_after as other_row}
use Rattle.machine_state.proofs.lists.Places.{below_there, got_one}
use Rattle.machine_state.proofs.standing.ReachedStands.{reached_stands}
use Rattle.machine_state.proofs.standing.Standing.{Stands}
use Rattle.machine_state.proofs.links.TakenJoins.{spawned_child, takes_child}
use Rattle.isolation_laws.proofs.rows.ListElements.{get_set}
use Rattle.floor_laws.specs.rule.Steps.{end_after, row_after}
use Rattle.floor_laws.proofs.rule.Along.{after_all}
use Rattle.floor_laws.proofs.rule.EntryLemmas.{child_next, end_next, row_next}
use Rattle.floor_laws.proofs.rule.Puts.{none_some, some_one}

pub record IsPlain (row : TaskRow) : Type 0 where
  pub value : row.status ≢ status.Done → row.value ≡ pos 0
  pub joined : row.parent ≡ None → row.joined ≡ false

abbrev pub ArePlain : State → Type 0
ArePlain st = (t : ℕ) (row : TaskRow) → IsRow st t row → IsPlain row

not_done : status.Made ≢ status.Done
not_done h = cc

still_not_done : status.Enabled ≢ status.Done
still_not_done h = cc

below_or : (n m : ℕ) → (n < m) ⊎ (m ≤ n)
below_or n m = by (nat_lt n m) refl
  where
    by : (b : Bool) → nat_lt n m ≡ b → (n < m) ⊎ (m ≤ n)
    by true is = inl (ltb-true n m is)
    by false is = inr (ltb-false n m is)

-- Rows.

admitted_plain : (row : TaskRow) → row.status ≡ status.Made → IsPlain row → IsPlain (admitted_row row)
admitted_plain row made plain = record { value = λ other. plain.value (λ done. not_done (sym made ∙ done)); joined = plain.joined }

-- the row that a segment leaves
left_plain : (lim : Bounds) (asked : ℕ) (row : TaskRow) (frame : Frame) (stop : Stop) → row.status ≡ status.Enabled → IsPlain row → IsPlain (row_after lim asked row frame stop)
left_plain lim asked row frame (stops.Make child args effects spawned future place) enabled plain = by (nat_lt (asked + 1) lim.tasks)
  where
    by : (b : Bool) → IsPlain (cond {A = TaskRow} b (going_row row (making_frame future spawned (asked + 1) frame)) (faulted_row row (stopped_frame frame)))
    by true = record { value = plain.value; joined = plain.joined }
    by false = record { value = λ other. plain.value (λ done. still_not_done (sym enabled ∙ done)); joined = plain.joined }
left_plain lim asked row frame (stops.Waits on) enabled plain = record { value = plain.value; joined = plain.joined }
left_plain lim asked row frame (stops.Joins on) enabled plain = record { value = plain.value; joined = plain.joined }
left_plain lim asked row frame (stops.Done value) enabled plain = record { value = λ other. absurd (other refl); joined = plain.joined }
left_plain lim asked row frame (stops.Fault kind place) enabled plain = record { value = λ other. plain.value (λ done. still_not_done (sym enabled ∙ done)); joined = plain.joined }

child_plain : (row : TaskRow) (q : ℕ) → row.parent ≡ Some q → IsPlain row → IsPlain (joined_row row)
child_plain row q spawned plain = record { value = plain.value; joined = λ none. absurd (none_some (sym none ∙ spawned)) }

new_plain : (lim : Bounds) (number : ℕ) (parent : Option ℕ) (frame : Frame) (args : List ℤ) (effects : Summary) → IsPlain (new_row lim number parent frame args effects)
new_plain lim number parent frame args effects = record { value = λ other. refl; joined = λ none. refl }

-- Moves.

module _ (p : Program) (lim : Bounds) (well : IsWellFormed p) where
  admission_plain : (st : State) (t : ℕ) (o : Option TaskRow) → slice_get st.tasks t ≡ o → HasStatus st t status.Made → ArePlain st → ArePlain (admitted st t o)
  admission_plain st t None is may plain u r there = plain u r there
  admission_plain st t (Some row) is may plain u r there =
      let made : row.status ≡ status.Made = ap (λ (x : TaskRow). x.status) (got_one (slice_get st.tasks t) is may.1) ∙ may.2 in
      elim (get_set st.tasks t u (admitted_row row) r there) [
        | inl own ↦ subst IsPlain (sym own.1) (admitted_plain row made (plain t row is))
        | inr old ↦ plain u r old.1
      ]

  module _ (st : State) (reached : IsReached p lim st) (t : ℕ) (may : MayTake st Run t) (plain : ArePlain st) where
    abbrev next : State
    next = (result_by_kind p lim st Run t).0

    abbrev row : TaskRow
    row = may.0.0

    there : IsRow st t may.0.0
    there = may.0.1

    enabled : may.0.0.status ≡ status.Enabled
    enabled = may.0.2

    below : t < length st.tasks
    below = slice_get_within st.tasks t may.0.0 may.0.1

    stands : Stands p lim st
    stands = reached_stands p lim st well reached

    abbrev left : Stopped
    left = segment p (ready_frame st.tasks may.0.0.frame) st.cells

    law : LeavesAlone p st next (record { kind = Run; task = t }) (result_by_kind p lim st Run t).1
    law = moves_leave_alone p lim st (record { kind = Run; task = t }) well reached may

    own_plain : (r : TaskRow) → IsRow next t r → IsPlain r
    own_plain r is =
        subst IsPlain (got_one (slice_get next.tasks t) (row_next p lim st t row there below left refl) is)
        (left_plain lim st.asked row left.frame left.stop enabled (plain t row there))

    old_plain : (u : ℕ) (r : TaskRow) → u ≢ t → u < length st.tasks → IsRow next u r → IsPlain r
    old_plain u r other made is =
        let before = below_there st.tasks u made in
        elim (other_row p lim st t u other before.0 before.1 Run) [
          | inl same ↦ subst IsPlain (got_one (slice_get next.tasks u) same.1 is) (plain u before.0 before.1)
          | inr marked ↦
              let child = spawned_child p lim st stands u t ((takes_child p lim st stands Run t u may).0 marked.0).child in
              let one : child.row ≡ before.0 = got_one (slice_get st.tasks u) child.there before.1 in
              let spawned : before.0.parent ≡ Some t = ap (λ (x : TaskRow). x.parent) (sym one) ∙ child.parent in
              subst IsPlain (got_one (slice_get next.tasks u) marked.1 is) (child_plain before.0 t spawned (plain u before.0 before.1))
        ]

    -- a task that is made there
    made_plain : (u : ℕ) (r : TaskRow) → length st.tasks ≤ u → IsRow next u r → IsPlain r
    made_plain u r past is = by left.stop refl
      where
        end_is : (stop : Stop) → left.stop ≡ stop → (result_by_kind p lim st Run t).1 ≡ end_after lim st.asked stop
        end_is stop same = end_next p lim st t row there below left refl ∙ ap (end_after lim st.asked) same

        none_made : (stop : Stop) → left.stop ≡ stop → made_by (end_after lim st.asked stop) ≡ 0 → IsPlain r
        none_made stop same none =
            let count = law.tasks ∙ ap (λ (n : ℕ). length st.tasks + n) (ap made_by (end_is stop same) ∙ none) in
            let within = slice_get_within next.tasks u r is in
            absurd (omega (arith, count, within, past))

        making : (child : Frame) (args : List ℤ) (effects : Summary) (spawned : Bool) (future : ℕ) (place : Place) → left.stop ≡ stops.Make child args effects spawned future place
            → (b : Bool) → nat_lt (st.asked + 1) lim.tasks ≡ b → IsPlain r
        making child args effects spawned future place same true may =
            let number = stands.number (ltb-true (st.asked + 1) lim.tasks may) in
            let made : made_by (end_after lim st.asked (stops.Make child args effects spawned future place)) ≡ 1 =
            ap (λ (b : Bool). made_by (cond {A = End} b (ends.Made (st.asked + 1)) (ends.Fault TaskLimit place))) may in
            let count = law.tasks ∙ ap (λ (n : ℕ). length st.tasks + n) (ap made_by (end_is (stops.Make child args effects spawned future place) same) ∙ made) in
            let within = slice_get_within next.tasks u r is in
            let here : u ≡ st.asked + 1 = omega (arith, count, within, past, number) in
            let child_row = child_next p lim st t row there below left refl child args effects spawned future place same may number in
            subst IsPlain (got_one (slice_get next.tasks (st.asked + 1)) child_row (subst (λ (n : ℕ). IsRow next n r) here is))
            (new_plain lim (st.asked + 1) (parent_of t spawned) child args effects)
        making child args effects spawned future place same false may =
            none_made (stops.Make child args effects spawned future place) same
            (ap (λ (b : Bool). made_by (cond {A = End} b (ends.Made (st.asked + 1)) (ends.Fault TaskLimit place))) may)

        by : (stop : Stop) → left.stop ≡ stop → IsPlain r
        by (stops.Make child args effects spawned future place) same = making child args effects spawned future place same (nat_lt (st.asked + 1) lim.tasks) refl
        by (stops.Waits on) same = none_made (stops.Waits on) same refl
        by (stops.Joins on) same = none_made (stops.Joins on) same refl
        by (stops.Done value) same = none_made (stops.Done value) same refl
        by (stops.Fault kind place) same = none_made (stops.Fault kind place) same refl

    run_plain : ArePlain next
    run_plain u r is =
        ⊎_elim
        (λ (same : u ≡ t). own_plain r (subst (λ (n : ℕ). IsRow next n r) same is))
        (λ (other : u ≢ t).
        ⊎_elim
        (λ (made : u < length st.tasks). old_plain u r other made is)
        (λ (past : length st.tasks ≤ u). made_plain u r past is)
        (below_or u (length st.tasks)))
        (cases_eq u t)

  move_plain : (st : State) → IsReached p lim st → (kind : Kind) (t : ℕ) → MayTake st kind t → ArePlain st → ArePlain (result_by_kind p lim st kind t).0
  move_plain st reached Admit t may plain = admission_plain st t (slice_get st.tasks t) refl may.0 plain
  move_plain st reached Run t may plain = run_plain st reached t may plain

  start_plain : ArePlain (start_of p lim)
  start_plain zero r is =
      let same : new_row lim 0 None (entry_frame p p.main []) [] (effects_at p p.main []) ≡ r = some_one is in
      subst IsPlain same (new_plain lim 0 None (entry_frame p p.main []) [] (effects_at p p.main []))
  start_plain (suc u) r is = absurd (none_some is)

  pub reached_plain : (st : State) → IsReached p lim st → ArePlain st
  reached_plain st reached =
      subst ArePlain (sym reached.same)
      (after_all p lim (λ (journal : List Entry) (s : State). ArePlain s) start_plain
      (λ before s mv run may plain. move_plain s (record { journal = before; legal = run.legal; same = run.same }) mv.kind mv.task may plain)
      reached.journal reached.legal)
