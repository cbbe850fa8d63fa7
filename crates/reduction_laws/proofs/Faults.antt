-- A run that has met a fault has ended so, whatever moves come after. A task that is about to meet one meets it later, too.
use Rattle.std.proofs.Common.{◌≡◌, ◌≤◌, ◌<◌, ◌+◌, not, ℕ, Bool, true, false, List, [], ◌∷◌, Option, None, Some, inl, inr, refl, sym, ap, ◌∙◌, subst, arith, nat_lt, ltb-true}
use Rattle.std.specs.Prelude.{slice_get}
use Rattle.std.proofs.lemmas.Bool.{cases_eq, lt-ltb}
use Rattle.twe_base.specs.Limits.{Bounds}
use Rattle.seg_journal.specs.declared.journal.End.{End}
use Rattle.seg_journal.specs.declared.journal.End.TheVariants as ends
use Rattle.seg_journal.specs.declared.journal.Entry.{Entry}
use Rattle.seg_journal.specs.declared.moves.Kind.{Kind}
use Rattle.seg_journal.specs.declared.moves.Kind.TheVariants.{Admit, Run}
use Rattle.seg_journal.specs.declared.moves.Move.{Move}
use Rattle.twe_program.specs.Program.{Program}
use Rattle.twe_program.specs.WellFormed.{IsWellFormed}
use Rattle.seg_meaning.specs.declared.stop.Stop.{Stop}
use Rattle.seg_meaning.specs.declared.stop.Stop.TheVariants as stops
use Rattle.seg_meaning.specs.Segment.{Stopped}
use Rattle.isolation_laws.specs.soundness.KeepsEffects.{KeepsEffects}
use Rattle.machine_state.specs.declared.state.FirstFault.{FirstFault}
use Rattle.machine_state.specs.declared.state.State.{State}
use Rattle.machine_state.specs.declared.state.TaskRow.{TaskRow}
use Rattle.machine_state.specs.declared.state.TaskStatus.TheVariants.{Made, Enabled, Done}
use Rattle.machine_state.specs.Changes.{ResultsAfter, fault_after, next_segment}
use Rattle.machine_state.specs.Legal.{MayMove, MayRun, MayTake}
use Rattle.machine_state.specs.Moves.{move_result, result_by_kind}
use Rattle.machine_state.specs.Rows.{IsRow}
use Rattle.machine_state.specs.Runs.{IsReached, LegalFrom, entry_of, is_fault, replayed}
use Rattle.machine_state.proofs.tasks.LeftAlone.{moves_leave_alone}
use Rattle.machine_state.proofs.lists.Places.{got_one}
use Rattle.determinism_laws.specs.Endings.{HasMetFault}
use Rattle.determinism_laws.proofs.KeptSegments.{keeps_next_segment}
use Rattle.determinism_laws.proofs.NearFaults.{ends_in_fault, reached_more, run_ends}
use Rattle.reduction_laws.specs.WaysToEnd.{CanEndSo, HasEndedSo, WayToEnd, all_done, stuck, faulty}

-- The first fault after a move.

first_stays : (earlier : FirstFault) (t : ℕ) (end : End) → fault_after (Some earlier) t end ≡ Some earlier
first_stays earlier t (ends.Fault kind place) = refl
first_stays earlier t ends.Admitted = refl
first_stays earlier t (ends.Made child) = refl
first_stays earlier t (ends.Waits on) = refl
first_stays earlier t (ends.Joins on) = refl
first_stays earlier t (ends.Done value) = refl

none_stays : (t : ℕ) (end : End) → is_fault end ≡ false → fault_after None t end ≡ None
none_stays t (ends.Fault kind place) e = absurd (cc (e))
none_stays t ends.Admitted e = refl
none_stays t (ends.Made child) e = refl
none_stays t (ends.Waits on) e = refl
none_stays t (ends.Joins on) e = refl
none_stays t (ends.Done value) e = refl

fault_there : (first : Option FirstFault) (t : ℕ) (end : End) → is_fault end ≡ true → (f : FirstFault) × (fault_after first t end ≡ Some f)
fault_there None t (ends.Fault kind place) e = (record { task = t; kind = kind; place = place }, refl)
fault_there (Some earlier) t (ends.Fault kind place) e = (earlier, refl)
fault_there first t ends.Admitted e = absurd (cc (e))
fault_there first t (ends.Made child) e = absurd (cc (e))
fault_there first t (ends.Waits on) e = absurd (cc (e))
fault_there first t (ends.Joins on) e = absurd (cc (e))
fault_there first t (ends.Done value) e = absurd (cc (e))

pub no_fault : (st : State) → st.first_fault ≡ None → ¬ HasMetFault st
no_fault st none met = let both : None ≡ Some met.0 = sym none ∙ met.1 in cc (both)

-- the status of a task says the kind of its move
pub same_kind : (st : State) (t : ℕ) (one other : Kind) → MayTake st one t → MayTake st other t → one ≡ other
same_kind st t Admit Admit may may_too = refl
same_kind st t Run Run may may_too = refl
same_kind st t Admit Run may may_too =
    let both : Made ≡ Enabled = sym may.0.2 ∙ (ap (λ (r : TaskRow). r.status) (got_one (slice_get st.tasks t) may.0.1 may_too.0.1) ∙ may_too.0.2) in
    absurd (cc (both))
same_kind st t Run Admit may may_too =
    let both : Enabled ≡ Made = sym may.0.2 ∙ (ap (λ (r : TaskRow). r.status) (got_one (slice_get st.tasks t) may.0.1 may_too.0.1) ∙ may_too.0.2) in
    absurd (cc (both))

-- a move, and what follows
pub ends_after : (p : Program) (lim : Bounds) (st : State) (mv : Move) (way : WayToEnd) → MayMove st mv → CanEndSo p lim (move_result p lim st mv).0 way → CanEndSo p lim st way
ends_after p lim st mv way may rest = record { entries = entry_of p lim st mv ∷ rest.entries; legal = (may, refl, rest.legal); ended = rest.ended }

-- Tasks that are asked for.

fits_still : (asked more tasks : ℕ) → asked ≤ more → (b : Bool) → nat_lt (more + 1) tasks ≡ b → not (nat_lt (asked + 1) tasks) ≡ true → not b ≡ true
fits_still asked more tasks le false e before = refl
fits_still asked more tasks le true e before =
    let less : more + 1 < tasks = ltb-true (more + 1) tasks e in
    let fits : nat_lt (asked + 1) tasks ≡ true = lt-ltb (asked + 1) tasks (omega (arith, less, le)) in
    let clash : false ≡ true = sym (ap not fits) ∙ before in
    absurd (cc (clash))

-- if more were asked for, a stop that ends in a fault still does
pub still_faults : (lim : Bounds) (asked more : ℕ) → asked ≤ more → (stop : Stop) → ends_in_fault lim asked stop ≡ true → ends_in_fault lim more stop ≡ true
still_faults lim asked more le (stops.Make child args effects spawned future place) e = fits_still asked more lim.tasks le (nat_lt (more + 1) lim.tasks) refl e
still_faults lim asked more le (stops.Waits on) e = e
still_faults lim asked more le (stops.Joins on) e = e
still_faults lim asked more le (stops.Done value) e = e
still_faults lim asked more le (stops.Fault kind place) e = refl

module _ (p : Program) (wf : IsWellFormed p) (keeps : KeepsEffects p) (lim : Bounds) where
  pub asked_more : (st : State) (mv : Move) → IsReached p lim st → MayMove st mv → st.asked ≤ (move_result p lim st mv).0.asked
  asked_more st mv reached may = by_kind mv.kind refl
    where
      by_kind : (k : Kind) → mv.kind ≡ k → st.asked ≤ (move_result p lim st mv).0.asked
      by_kind Admit e =
          let results = subst (λ (k : Kind). ResultsAfter p st (move_result p lim st mv).0 k mv.task) e (moves_leave_alone p lim st mv wf reached may).results in
          let same = results.asked in
          omega (arith, same)
      by_kind Run e =
          let runs : MayRun st mv.task = subst (λ (k : Kind). MayTake st k mv.task) e may in
          let results = subst (λ (k : Kind). ResultsAfter p st (move_result p lim st mv).0 k mv.task) e (moves_leave_alone p lim st mv wf reached may).results in
          let same = (results runs.0.0 runs.0.1).asked in
          omega (arith, same)

  -- The state after a move.

  pub met_after : (st : State) (mv : Move) → IsReached p lim st → MayMove st mv → is_fault (move_result p lim st mv).1 ≡ true → HasMetFault (move_result p lim st mv).0
  met_after st mv reached may fault =
      let there = fault_there st.first_fault mv.task (move_result p lim st mv).1 fault in (there.0, (moves_leave_alone p lim st mv wf reached may).first_fault ∙ there.1)

  pub none_after : (st : State) (mv : Move) → IsReached p lim st → MayMove st mv → st.first_fault ≡ None → is_fault (move_result p lim st mv).1 ≡ false → (move_result p lim st mv).0.first_fault ≡ None
  none_after st mv reached may none fault =
      (moves_leave_alone p lim st mv wf reached may).first_fault
      ∙ (ap (λ (o : Option FirstFault). fault_after o mv.task (move_result p lim st mv).1) none ∙ none_stays mv.task (move_result p lim st mv).1 fault)

  pub met_stays : (st : State) (mv : Move) → IsReached p lim st → MayMove st mv → HasMetFault st → HasMetFault (move_result p lim st mv).0
  met_stays st mv reached may met = (
    met.0,
    (moves_leave_alone p lim st mv wf reached may).first_fault
        ∙ (ap (λ (o : Option FirstFault). fault_after o mv.task (move_result p lim st mv).1) met.1 ∙ first_stays met.0 mv.task (move_result p lim st mv).1),
  )

  -- after all moves
  met_later : (entries : List Entry) (st : State) → IsReached p lim st → LegalFrom p lim st entries → HasMetFault st → HasMetFault (replayed p lim st entries)
  met_later [] st reached legal met = met
  met_later (entry ∷ entries) st reached legal met =
      met_later entries (move_result p lim st entry.mv).0 (reached_more p wf keeps lim st entry.mv reached legal.0) legal.2 (met_stays st entry.mv reached legal.0 met)

  -- a run that has met a fault can only end with one, as each other that has met one does
  pub ends_as_met : (st other : State) (way : WayToEnd) → IsReached p lim st → HasMetFault st → CanEndSo p lim st way → HasMetFault other → CanEndSo p lim other way
  ends_as_met st other (all_done cells prints tasks) reached met can met_too = absurd (no_fault (replayed p lim st can.entries) can.ended.0.0 (met_later can.entries st reached can.legal met))
  ends_as_met st other stuck reached met can met_too = absurd (no_fault (replayed p lim st can.entries) can.ended.0 (met_later can.entries st reached can.legal met))
  ends_as_met st other faulty reached met can met_too = record { entries = []; legal = tt; ended = met_too }

  -- A task that may run has not ended.
  pub may_still_run : (st : State) (t : ℕ) (way : WayToEnd) → MayRun st t → HasEndedSo st way → HasMetFault st
  may_still_run st t (all_done cells prints tasks) may ended = let both : Done ≡ Enabled = sym (ended.0.1 t may.0.0 may.0.1) ∙ may.0.2 in absurd (cc (both))
  may_still_run st t stuck may ended = absurd (ended.2 (record { task = t; kind = Run }) may)
  may_still_run st t faulty may ended = ended

  -- the segment of a task ends in a fault, if its stop does
  pub segment_met : (st : State) (t : ℕ) (row : TaskRow) → IsReached p lim st → IsRow st t row → MayRun st t → ends_in_fault lim st.asked (next_segment p st row).stop ≡ true
      → HasMetFault (result_by_kind p lim st Run t).0
  segment_met st t row reached here may fault =
      let mv : Move = record { task = t; kind = Run } in met_after st mv reached may (run_ends p wf keeps lim st t row mv here refl refl ∙ fault)

  pub segment_none : (st : State) (t : ℕ) (row : TaskRow) → IsReached p lim st → IsRow st t row → MayRun st t → st.first_fault ≡ None
      → ends_in_fault lim st.asked (next_segment p st row).stop ≡ false → (result_by_kind p lim st Run t).0.first_fault ≡ None
  segment_none st t row reached here may none fits =
      let mv : Move = record { task = t; kind = Run } in none_after st mv reached may none (run_ends p wf keeps lim st t row mv here refl refl ∙ fits)

  -- if a task is about to meet a fault, the run can only end with one
  pub doomed : (entries : List Entry) (st other : State) (way : WayToEnd) → IsReached p lim st → LegalFrom p lim st entries → HasEndedSo (replayed p lim st entries) way
      → (s : ℕ) (row : TaskRow) → IsRow st s row → MayRun st s → ends_in_fault lim st.asked (next_segment p st row).stop ≡ true → HasMetFault other → CanEndSo p lim other way
  doomed [] st other way reached legal ended s row here may fault met =
      ends_as_met st other way reached (may_still_run st s way may ended) (record { entries = []; legal = tt; ended = ended }) met
  doomed (entry ∷ entries) st other way reached legal ended s row here may fault met =
      let new = (move_result p lim st entry.mv).0 in
      let on = reached_more p wf keeps lim st entry.mv reached legal.0 in
      elim (cases_eq entry.mv.task s) [
        | inr differ ↦
            let kept = keeps_next_segment p wf keeps lim st reached s row entry.mv differ here may legal.0 in
            let stop : (next_segment p new row).stop ≡ (next_segment p st row).stop = ap (λ (x : Stopped). x.stop) kept.same in
            let later = still_faults lim st.asked new.asked (asked_more st entry.mv reached legal.0) (next_segment p st row).stop fault in
            doomed entries new other way on legal.2 ended s row kept.there kept.may (ap (ends_in_fault lim new.asked) stop ∙ later) met
        | inl same ↦
            let kind = same_kind st s entry.mv.kind Run (subst (λ (n : ℕ). MayTake st entry.mv.kind n) same legal.0) may in
            let end = met_after st entry.mv reached legal.0 (run_ends p wf keeps lim st s row entry.mv here kind same ∙ fault) in
            ends_as_met new other way on end (record { entries = entries; legal = legal.2; ended = ended }) met
      ]
