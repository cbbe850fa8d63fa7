-- A task that is about to meet a fault meets it, whatever others do before. So a run in which some task could have met one does
-- not end with all tasks done.
use Rattle.std.proofs.Common.{◌≡◌, ◌≤◌, ◌<◌, ◌+◌, ◌++◌, not, ℕ, zero, suc, ℤ, Bool, true, false, cond, List, [], ◌∷◌, take, Option, None, Some, inl, inr, refl, sym, ap, ◌∙◌, subst, arith, nat_lt, ltb-true}
use Rattle.std.specs.Prelude.{slice_get}
use Rattle.std.proofs.lemmas.Bool.{cases_Bool, cases_eq, lt-ltb}
use Rattle.twe_base.specs.declared.place.Place.{Place}
use Rattle.twe_base.specs.declared.fault.FaultKind.TheVariants.{TaskLimit}
use Rattle.twe_base.specs.Limits.{Bounds}
use Rattle.effect_sets.specs.declared.effects.Summary.{Summary}
use Rattle.seg_journal.specs.declared.journal.End.{End}
use Rattle.seg_journal.specs.declared.journal.End.TheVariants as ends
use Rattle.seg_journal.specs.declared.journal.Entry.{Entry}
use Rattle.seg_journal.specs.declared.moves.Kind.{Kind}
use Rattle.seg_journal.specs.declared.moves.Kind.TheVariants.{Admit, Run}
use Rattle.seg_journal.specs.declared.moves.Move.{Move}
use Rattle.wait_graph.specs.Link.{link_of}
use Rattle.twe_program.specs.Program.{Program}
use Rattle.twe_program.specs.WellFormed.{IsWellFormed}
use Rattle.seg_meaning.specs.declared.frame.Frame.{Frame}
use Rattle.seg_meaning.specs.declared.stop.Stop.{Stop}
use Rattle.seg_meaning.specs.declared.stop.Stop.TheVariants as stops
use Rattle.seg_meaning.specs.Segment.{Stopped}
use Rattle.isolation_laws.specs.soundness.KeepsEffects.{KeepsEffects}
use Rattle.machine_state.specs.declared.state.FirstFault.{FirstFault}
use Rattle.machine_state.specs.declared.state.State.{State}
use Rattle.machine_state.specs.declared.state.TaskRow.{TaskRow}
use Rattle.machine_state.specs.declared.state.TaskStatus.TheVariants.{Made, Enabled, Done, Faulted}
use Rattle.machine_state.specs.Changes.{ResultsAfter, fault_after, next_segment}
use Rattle.machine_state.specs.Legal.{MayMove, MayRun, MayTake}
use Rattle.machine_state.specs.Moves.{joined_child, move_result, ran, result_by_kind, start_of, state_after_asking, state_after_fault, state_after_join, state_after_make, stop_result, stopped_frame}
use Rattle.machine_state.specs.Rows.{IsRow}
use Rattle.machine_state.specs.Runs.{AllTasksDone, IsReached, Legal, LegalFrom, entry_of, is_fault, replayed, state_after}
use Rattle.machine_state.proofs.tasks.LeftAlone.{moves_leave_alone}
use Rattle.machine_state.proofs.lists.Places.{got_one}
use Rattle.machine_state.proofs.replays.Replayed.{run_more}
use Rattle.machine_state.proofs.standing.ReachedStands.{reached_stands}
use Rattle.machine_state.proofs.weight.JoinedWeight.{asked_joined}
use Rattle.determinism_laws.specs.Segments.{state_before}
use Rattle.determinism_laws.specs.Endings.{CanFinish}
use Rattle.determinism_laws.proofs.KeptSegments.{keeps_next_segment}

-- whether a segment with this stop ends in a fault, if so many tasks were asked for before
abbrev pub ends_in_fault : Bounds → ℕ → Stop → Bool
ends_in_fault lim asked (stops.Make child args effects spawned future place) = not (nat_lt (asked + 1) lim.tasks)
ends_in_fault lim asked (stops.Waits on) = false
ends_in_fault lim asked (stops.Joins on) = false
ends_in_fault lim asked (stops.Done value) = false
ends_in_fault lim asked (stops.Fault kind place) = true

fits_still : (asked more tasks : ℕ) → asked ≤ more → (b : Bool) → nat_lt (more + 1) tasks ≡ b → not (nat_lt (asked + 1) tasks) ≡ true → not b ≡ true
fits_still asked more tasks le false e before = refl
fits_still asked more tasks le true e before =
    let less : more + 1 < tasks = ltb-true (more + 1) tasks e in
    let fits : nat_lt (asked + 1) tasks ≡ true = lt-ltb (asked + 1) tasks (omega (arith, less, le)) in
    let clash : false ≡ true = sym (ap not fits) ∙ before in
    absurd (cc (clash))

-- if more were asked for, it still does
still_faults : (lim : Bounds) (asked more : ℕ) → asked ≤ more → (stop : Stop) → ends_in_fault lim asked stop ≡ true → ends_in_fault lim more stop ≡ true
still_faults lim asked more le (stops.Make child args effects spawned future place) e = fits_still asked more lim.tasks le (nat_lt (more + 1) lim.tasks) refl e
still_faults lim asked more le (stops.Waits on) e = e
still_faults lim asked more le (stops.Joins on) e = e
still_faults lim asked more le (stops.Done value) e = e
still_faults lim asked more le (stops.Fault kind place) e = refl

-- so ends the move
module _ (lim : Bounds) (st : State) (t : ℕ) (row : TaskRow) (frame : Frame) where
  make_ends : (b : Bool) → (child : Frame) (args : List ℤ) (effects : Summary) (spawned : Bool) (future : ℕ) (place : Place)
      → is_fault (cond {A = State × End} b (state_after_make lim st t row frame future spawned child args effects, ends.Made (st.asked + 1))
      (state_after_fault (state_after_asking st) t row (stopped_frame frame) TaskLimit place, ends.Fault TaskLimit place)).1 ≡ not b
  make_ends true child args effects spawned future place = refl
  make_ends false child args effects spawned future place = refl

  stop_ends : (stop : Stop) → is_fault (stop_result lim st t row frame stop).1 ≡ ends_in_fault lim st.asked stop
  stop_ends (stops.Make child args effects spawned future place) = make_ends (nat_lt (st.asked + 1) lim.tasks) child args effects spawned future place
  stop_ends (stops.Waits on) = refl
  stop_ends (stops.Joins on) = refl
  stop_ends (stops.Done value) = refl
  stop_ends (stops.Fault kind place) = refl

-- a fault becomes the first, or is not the first
fault_there : (first : Option FirstFault) (t : ℕ) (end : End) → is_fault end ≡ true → (f : FirstFault) × (fault_after first t end ≡ Some f)
fault_there None t (ends.Fault kind place) e = (record { task = t; kind = kind; place = place }, refl)
fault_there (Some earlier) t (ends.Fault kind place) e = (earlier, refl)
fault_there first t ends.Admitted e = absurd (cc (e))
fault_there first t (ends.Made child) e = absurd (cc (e))
fault_there first t (ends.Waits on) e = absurd (cc (e))
fault_there first t (ends.Joins on) e = absurd (cc (e))
fault_there first t (ends.Done value) e = absurd (cc (e))

first_stays : (earlier : FirstFault) (t : ℕ) (end : End) → fault_after (Some earlier) t end ≡ Some earlier
first_stays earlier t (ends.Fault kind place) = refl
first_stays earlier t ends.Admitted = refl
first_stays earlier t (ends.Made child) = refl
first_stays earlier t (ends.Waits on) = refl
first_stays earlier t (ends.Joins on) = refl
first_stays earlier t (ends.Done value) = refl

module _ (p : Program) (wf : IsWellFormed p) (keeps : KeepsEffects p) (lim : Bounds) where
  pub reached_more : (st : State) (mv : Move) → IsReached p lim st → MayMove st mv → IsReached p lim (move_result p lim st mv).0
  reached_more st mv reached may =
      let run = run_more p lim reached.journal st mv (record { legal = reached.legal; same = reached.same }) may in
      record { journal = reached.journal ++ entry_of p lim st mv ∷ []; legal = run.legal; same = run.same }

  -- no fewer tasks are asked for after a move
  asked_more : (st : State) (mv : Move) → IsReached p lim st → MayMove st mv → st.asked ≤ (move_result p lim st mv).0.asked
  asked_more st mv reached may = by_kind mv.kind refl
    where
      by_kind : (k : Kind) → mv.kind ≡ k → st.asked ≤ (move_result p lim st mv).0.asked
      by_kind Admit e =
          let results = subst (λ (k : Kind). ResultsAfter p st (move_result p lim st mv).0 k mv.task) e (moves_leave_alone p lim st mv wf reached may).results in
          let same = results.asked in
          omega (arith, same)
      by_kind Run e =
          let runs : MayRun st mv.task = subst (λ (k : Kind). MayTake st k mv.task) e may in
          let results = subst (λ (k : Kind). ResultsAfter p st (move_result p lim st mv).0 k mv.task) e (moves_leave_alone p lim st mv wf reached may).results in
          let same = (results runs.0.0 runs.0.1).asked in
          omega (arith, same)

  -- the end of a segment
  pub run_ends : (st : State) (s : ℕ) (row : TaskRow) (mv : Move) → IsRow st s row → mv.kind ≡ Run → mv.task ≡ s
      → is_fault (move_result p lim st mv).1 ≡ ends_in_fault lim st.asked (next_segment p st row).stop
  run_ends st s row mv here kind task =
      let left = next_segment p st row in
      let later : State = record st { cells = left.cells } in
      let child = joined_child row.out (link_of st.links s).waits in
      let to : move_result p lim st mv ≡ ran p lim st s (slice_get st.tasks s) = λ i. result_by_kind p lim st (kind i) (task i) in
      let is : ran p lim st s (slice_get st.tasks s) ≡ stop_result lim (state_after_join later child) s row left.frame left.stop = ap (ran p lim st s) here in
      ap (λ (x : State × End). is_fault x.1) (to ∙ is)
      ∙ (stop_ends lim (state_after_join later child) s row left.frame left.stop ∙ ap (λ (n : ℕ). ends_in_fault lim n left.stop) (asked_joined later child))

  -- a run with a fault does not end with all tasks done
  pub stays_faulty : (entries : List Entry) (st : State) (first : FirstFault) → IsReached p lim st → LegalFrom p lim st entries → st.first_fault ≡ Some first
      → ¬ AllTasksDone (replayed p lim st entries)
  stays_faulty [] st first reached legal fault all =
      let has = (reached_stands p lim st wf reached).fault first fault in
      let both : Faulted ≡ Done = sym has.2 ∙ all first.task has.0 has.1 in
      cc (both)
  stays_faulty (entry ∷ entries) st first reached legal fault all =
      let alone = moves_leave_alone p lim st entry.mv wf reached legal.0 in
      let end = (move_result p lim st entry.mv).1 in
      let still = alone.first_fault ∙ (ap (λ (o : Option FirstFault). fault_after o entry.mv.task end) fault ∙ first_stays first entry.mv.task end) in
      stays_faulty entries (move_result p lim st entry.mv).0 first (reached_more st entry.mv reached legal.0) legal.2 still all

  -- nor does one in which a task is about to meet one
  doomed : (entries : List Entry) (st : State) → IsReached p lim st → LegalFrom p lim st entries → (s : ℕ) (row : TaskRow) → IsRow st s row → MayRun st s
      → ends_in_fault lim st.asked (next_segment p st row).stop ≡ true → ¬ AllTasksDone (replayed p lim st entries)
  doomed [] st reached legal s row here may fault all =
      let both : Done ≡ Enabled = sym (all s may.0.0 may.0.1) ∙ may.0.2 in
      cc (both)
  doomed (entry ∷ entries) st reached legal s row here may fault all =
      let new = (move_result p lim st entry.mv).0 in
      let on = reached_more st entry.mv reached legal.0 in
      elim (cases_eq entry.mv.task s) [
        | inr other ↦
            let kept = keeps_next_segment p wf keeps lim st reached s row entry.mv other here may legal.0 in
            let stop : (next_segment p new row).stop ≡ (next_segment p st row).stop = ap (λ (x : Stopped). x.stop) kept.same in
            let later = still_faults lim st.asked new.asked (asked_more st entry.mv reached legal.0) (next_segment p st row).stop fault in
            doomed entries new on legal.2 s row kept.there kept.may (ap (ends_in_fault lim new.asked) stop ∙ later) all
        | inl same ↦ own entry entries st reached legal s row here may fault same on all entry.mv.kind refl
      ]
    where
      own : (e : Entry) (others : List Entry) (x : State) → IsReached p lim x → LegalFrom p lim x (e ∷ others) → (t : ℕ) (r : TaskRow) → IsRow x t r → MayRun x t
          → ends_in_fault lim x.asked (next_segment p x r).stop ≡ true → e.mv.task ≡ t → IsReached p lim (move_result p lim x e.mv).0
          → AllTasksDone (replayed p lim (move_result p lim x e.mv).0 others) → (k : Kind) → e.mv.kind ≡ k → ⊥
      own e others x is_reached is_legal t r is_row runs faults is_task after done Admit kind =
          let admits = subst (λ (k : Kind). MayTake x k e.mv.task) kind is_legal.0 in
          let same_row : admits.0.0 ≡ runs.0.0 = got_one (slice_get x.tasks t) (subst (λ (n : ℕ). IsRow x n admits.0.0) is_task admits.0.1) runs.0.1 in
          let both : Made ≡ Enabled = sym admits.0.2 ∙ (ap (λ (a : TaskRow). a.status) same_row ∙ runs.0.2) in
          cc (both)
      own e others x is_reached is_legal t r is_row runs faults is_task after done Run kind =
          let alone = moves_leave_alone p lim x e.mv wf is_reached is_legal.0 in
          let end = (move_result p lim x e.mv).1 in
          let first = fault_there x.first_fault e.mv.task end (run_ends x t r e.mv is_row kind is_task ∙ faults) in
          stays_faulty others (move_result p lim x e.mv).0 first.0 after is_legal.2 (alone.first_fault ∙ first.1) done

  -- from a place of a journal on
  here_not : (journal : List Entry) (st : State) → IsReached p lim st → LegalFrom p lim st journal → AllTasksDone (replayed p lim st journal) → (mv : Move) → MayMove st mv
      → (k : Kind) → mv.kind ≡ k → is_fault (move_result p lim st mv).1 ≡ false
  here_not journal st reached legal all mv may Admit kind = ap (λ (k : Kind). is_fault (result_by_kind p lim st k mv.task).1) kind
  here_not journal st reached legal all mv may Run kind =
      let runs : MayRun st mv.task = subst (λ (k : Kind). MayTake st k mv.task) kind may in
      elim (cases_Bool (is_fault (move_result p lim st mv).1)) [
        | inl fault ↦
            absurd (doomed journal st reached legal mv.task runs.0.0 runs.0.1 runs (sym (run_ends st mv.task runs.0.0 mv runs.0.1 kind refl) ∙ fault) all)
        | inr none ↦ none
      ]

  never_near : (journal : List Entry) (st : State) → IsReached p lim st → LegalFrom p lim st journal → AllTasksDone (replayed p lim st journal) → (n : ℕ) (mv : Move)
      → MayMove (replayed p lim st (take n journal)) mv → is_fault (move_result p lim (replayed p lim st (take n journal)) mv).1 ≡ false
  never_near journal st reached legal all zero mv may = here_not journal st reached legal all mv may mv.kind refl
  never_near [] st reached legal all (suc n) mv may = here_not [] st reached legal all mv may mv.kind refl
  never_near (entry ∷ journal) st reached legal all (suc n) mv may =
      never_near journal (move_result p lim st entry.mv).0 (reached_more st entry.mv reached legal.0) legal.2 all n mv may

pub no_near_faults : (p : Program) → IsWellFormed p → KeepsEffects p → (lim : Bounds) (journal : List Entry) → Legal p lim journal → AllTasksDone (state_after p lim journal)
    → (n : ℕ) (mv : Move) → MayMove (state_before p lim journal n) mv → is_fault (move_result p lim (state_before p lim journal n) mv).1 ≡ false
no_near_faults p wf keeps lim journal legal all n mv may =
    never_near p wf keeps lim journal (start_of p lim) (record { journal = []; legal = tt; same = refl }) legal all n mv may

pub finishing_meets_none : (p : Program) → IsWellFormed p → KeepsEffects p → (lim : Bounds) (st : State) → IsReached p lim st → CanFinish p lim st → (mv : Move) → MayMove st mv
    → is_fault (move_result p lim st mv).1 ≡ false
finishing_meets_none p wf keeps lim st reached finish mv may = here_not p wf keeps lim finish.entries st reached finish.legal finish.done mv may mv.kind refl
