-- The state before each entry of a journal, and what stays from there to a later entry.
use Rattle.std.proofs.Common.{◌≡◌, ◌≤◌, ℕ, zero, suc, ℤ, List, [], ◌∷◌, take, Some, refl, sym, ap, ◌∙◌, subst, arith}
use Rattle.std.specs.Prelude.{slice_get}
use Rattle.seg_journal.specs.declared.journal.Entry.{Entry}
use Rattle.twe_base.specs.Limits.{Bounds}
use Rattle.twe_program.specs.Program.{Program}
use Rattle.twe_program.specs.WellFormed.{IsWellFormed}
use Rattle.machine_state.specs.declared.state.State.{State}
use Rattle.machine_state.specs.declared.state.TaskRow.{TaskRow}
use Rattle.machine_state.specs.declared.state.TaskStatus.TheVariants.{Done}
use Rattle.machine_state.specs.Changes.{IsDoneWith}
use Rattle.machine_state.specs.Legal.{MayMove}
use Rattle.machine_state.specs.Moves.{move_result, start_of}
use Rattle.machine_state.specs.Rows.{HasStatus, IsRow}
use Rattle.machine_state.specs.Runs.{IsReached, Legal, LegalFrom, replayed, state_after}
use Rattle.machine_state.proofs.tasks.DoneStays.{value_stays_on}
use Rattle.machine_state.proofs.standing.Later.{Later}
use Rattle.machine_state.proofs.standing.LaterStates.{replayed_later}
use Rattle.machine_state.proofs.lists.Places.{got_one}
use Rattle.machine_state.proofs.standing.ReachedStands.{linked_of, reached_stands}
use Rattle.machine_state.proofs.standing.Standing.{Stands}
use Rattle.isolation_laws.proofs.journals.Journals.{beginning_reached}
use Rattle.determinism_laws.specs.Segments.{state_before}

-- The entry is a legal move in the first state, and leads to the second.
pub record IsTaken (p : Program) (lim : Bounds) (before after : State) (entry : Entry) : Type 0 where
  pub may : MayMove before entry.mv
  pub end : (move_result p lim before entry.mv).1 ≡ entry.end
  pub leads : after ≡ (move_result p lim before entry.mv).0

-- Some legal moves lead from the first state to the second.
pub record LeadsTo (p : Program) (lim : Bounds) (from to : State) : Type 0 where
  pub entries : List Entry
  pub legal : LegalFrom p lim from entries
  pub same : to ≡ replayed p lim from entries

module _ (p : Program) (lim : Bounds) where
  taken_from : (st : State) (journal : List Entry) (n : ℕ) (entry : Entry) → slice_get journal n ≡ Some entry → LegalFrom p lim st journal
      → IsTaken p lim (replayed p lim st (take n journal)) (replayed p lim st (take (suc n) journal)) entry
  taken_from st [] n entry e legal = absurd (cc (e))
  taken_from st (x ∷ journal) zero entry e legal =
      let same : x ≡ entry = cc in
      subst (λ (y : Entry). IsTaken p lim st (move_result p lim st x.mv).0 y) same (record { may = legal.0; end = legal.1; leads = refl })
  taken_from st (x ∷ journal) (suc n) entry e legal = taken_from (move_result p lim st x.mv).0 journal n entry e legal.2

  legal_to : (st : State) (journal : List Entry) (n : ℕ) → LegalFrom p lim st journal → LegalFrom p lim st (take n journal)
  legal_to st journal zero legal = tt
  legal_to st [] (suc n) legal = tt
  legal_to st (x ∷ journal) (suc n) legal = (legal.0, legal.1, legal_to (move_result p lim st x.mv).0 journal n legal.2)

  leads_from : (st : State) (journal : List Entry) (n m : ℕ) → n ≤ m → LegalFrom p lim st journal
      → LeadsTo p lim (replayed p lim st (take n journal)) (replayed p lim st (take m journal))
  leads_from st journal zero m le legal = record { entries = take m journal; legal = legal_to st journal m legal; same = refl }
  leads_from st journal (suc n) zero le legal = absurd (omega (arith, le))
  leads_from st [] (suc n) (suc m) le legal = record { entries = []; legal = tt; same = refl }
  leads_from st (x ∷ journal) (suc n) (suc m) le legal = leads_from (move_result p lim st x.mv).0 journal n m (omega (arith, le)) legal.2

  leads_on : (st : State) (journal : List Entry) (n : ℕ) → LegalFrom p lim st journal → LeadsTo p lim (replayed p lim st (take n journal)) (replayed p lim st journal)
  leads_on st journal zero legal = record { entries = journal; legal = legal; same = refl }
  leads_on st [] (suc n) legal = record { entries = []; legal = tt; same = refl }
  leads_on st (x ∷ journal) (suc n) legal = leads_on (move_result p lim st x.mv).0 journal n legal.2

  -- rows only grow on the way
  pub led_later : IsWellFormed p → (from to : State) → Stands p lim from → LeadsTo p lim from to → Later from.tasks to.tasks
  led_later wf from to stands leads =
      subst (λ (s : State). Later from.tasks s.tasks) (sym leads.same) (replayed_later p lim from leads.entries leads.legal (linked_of p lim wf from stands))

  -- a done task stays done
  pub led_done : (from to : State) (u : ℕ) → LeadsTo p lim from to → HasStatus from u Done → HasStatus to u Done
  led_done from to u leads done =
      let later = value_stays_on p lim from leads.entries u done.0.value leads.legal (record { row = done.0; there = done.1; done = done.2; value_is = refl }) in
      subst (λ (s : State). HasStatus s u Done) (sym leads.same) (later.row, later.there, later.done)

module _ (p : Program) (wf : IsWellFormed p) (lim : Bounds) (journal : List Entry) (legal : Legal p lim journal) where
  abbrev at : ℕ → State
  at n = state_before p lim journal n

  pub reached_at : (n : ℕ) → IsReached p lim (at n)
  reached_at n = beginning_reached p lim journal legal n

  pub stands_at : (n : ℕ) → Stands p lim (at n)
  stands_at n = reached_stands p lim (at n) wf (reached_at n)

  pub taken_at : (n : ℕ) (entry : Entry) → slice_get journal n ≡ Some entry → IsTaken p lim (at n) (at (suc n)) entry
  taken_at n entry there = taken_from p lim (start_of p lim) journal n entry there legal

  pub later_at : (n m : ℕ) → n ≤ m → Later (at n).tasks (at m).tasks
  later_at n m le = led_later p lim wf (at n) (at m) (stands_at n) (leads_from p lim (start_of p lim) journal n m le legal)

  pub done_at : (n m u : ℕ) → n ≤ m → HasStatus (at n) u Done → HasStatus (at m) u Done
  done_at n m u le done = led_done p lim (at n) (at m) u (leads_from p lim (start_of p lim) journal n m le legal) done

  -- a value that a task has now is the one that it has at the end
  pub value_end : (n u : ℕ) (value : ℤ) → IsDoneWith (at n) u value → IsDoneWith (state_after p lim journal) u value
  value_end n u value done =
      let leads = leads_on p lim (start_of p lim) journal n legal in
      subst (λ (s : State). IsDoneWith s u value) (sym leads.same) (value_stays_on p lim (at n) leads.entries u value leads.legal done)

  pub later_end : (n : ℕ) → Later (at n).tasks (state_after p lim journal).tasks
  later_end n = led_later p lim wf (at n) (state_after p lim journal) (stands_at n) (leads_on p lim (start_of p lim) journal n legal)

  -- a task that is there has the parent that it has at the end
  pub parent_at : (n u : ℕ) (row final : TaskRow) → IsRow (at n) u row → IsRow (state_after p lim journal) u final → final.parent ≡ row.parent
  parent_at n u row final here last =
      let kept = (later_end n).kept u row here in
      let same : final ≡ kept.now = got_one (slice_get (state_after p lim journal).tasks u) last kept.there in
      ap (λ (r : TaskRow). r.parent) same ∙ kept.parent
