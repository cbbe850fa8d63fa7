-- A state has one outcome, and a run that has ended stays so, whatever entries come after a fault.
use Rattle.std.proofs.Common.{◌≡◌, ◌≢◌, ◌++◌, ℕ, true, false, List, [], ◌∷◌, Option, None, Some, refl, sym, ap, ◌∙◌}
use Rattle.std.proofs.lemmas.Option.{none-some, same_Some}
use Rattle.seg_journal.specs.declared.journal.End.{End}
use Rattle.seg_journal.specs.declared.journal.End.TheVariants as ends
use Rattle.seg_journal.specs.declared.journal.Entry.{Entry}
use Rattle.seg_journal.specs.declared.moves.Kind.{Kind}
use Rattle.seg_journal.specs.declared.moves.Move.{Move}
use Rattle.twe_base.specs.Limits.{Bounds}
use Rattle.twe_program.specs.Program.{Program}
use Rattle.twe_program.specs.WellFormed.{IsWellFormed}
use Rattle.machine_state.specs.declared.ending.Outcome.{Outcome}
use Rattle.machine_state.specs.declared.ending.Outcome.TheVariants.{AllDone, Fault, Stuck, Unfinished}
use Rattle.machine_state.specs.declared.state.FirstFault.{FirstFault}
use Rattle.machine_state.specs.declared.state.State.{State}
use Rattle.machine_state.specs.Changes.{fault_after}
use Rattle.machine_state.specs.Legal.{MayMove, MayTake}
use Rattle.machine_state.specs.Moves.{move_result}
use Rattle.machine_state.specs.Runs.{AllTasksDone, IsOutcome, IsReached, LegalFrom, entry_of, replayed}
use Rattle.flat_sched.specs.declared.ending.RunEnd.{RunEnd}
use Rattle.flat_sched.specs.declared.ending.RunEnd.TheVariants as ends_of_runs
use Rattle.flat_sched.specs.RunEnds.{IsRunEnd, is_run_over, outcome_of}
use Rattle.machine_state.proofs.replays.Replayed.{run_more}
use Rattle.machine_state.proofs.tasks.LeftAlone.{moves_leave_alone}
use Rattle.machine_state.proofs.tasks.Movers.{mover_undone}

not_both : (st : State) (fault : FirstFault) → st.first_fault ≡ None → st.first_fault ≡ Some fault → ⊥
not_both st fault none some = none-some fault (sym none ∙ some)

pub one_outcome : (st : State) (a b : Outcome) → IsOutcome st a → IsOutcome st b → a ≡ b
one_outcome st AllDone AllDone x y = refl
one_outcome st AllDone (Fault task kind place) x y = absurd (not_both st _ x.0 y)
one_outcome st AllDone Stuck x y = absurd (y.1 x.1)
one_outcome st AllDone Unfinished x y = absurd (y.1 x.1)
one_outcome st (Fault task kind place) AllDone x y = absurd (not_both st _ y.0 x)
one_outcome st (Fault task kind place) (Fault other sort spot) x y =
    let one : FirstFault = record { task = task; kind = kind; place = place } in
    let two : FirstFault = record { task = other; kind = sort; place = spot } in
    let same : one ≡ two = same_Some one two (sym x ∙ y) in
    λ i. Fault (same i).task (same i).kind (same i).place
one_outcome st (Fault task kind place) Stuck x y = absurd (not_both st _ y.0 x)
one_outcome st (Fault task kind place) Unfinished x y = absurd (not_both st _ y.0 x)
one_outcome st Stuck AllDone x y = absurd (x.1 y.1)
one_outcome st Stuck (Fault task kind place) x y = absurd (not_both st _ x.0 y)
one_outcome st Stuck Stuck x y = refl
one_outcome st Stuck Unfinished x y = absurd (x.2 y.2.0 y.2.1)
one_outcome st Unfinished AllDone x y = absurd (x.1 y.1)
one_outcome st Unfinished (Fault task kind place) x y = absurd (not_both st _ x.0 y)
one_outcome st Unfinished Stuck x y = absurd (y.2 x.2.0 x.2.1)
one_outcome st Unfinished Unfinished x y = refl

-- Further entries.

fault_stays : (first : FirstFault) (t : ℕ) (end : End) → fault_after (Some first) t end ≡ Some first
fault_stays first t ends.Admitted = refl
fault_stays first t (ends.Made child) = refl
fault_stays first t (ends.Waits on) = refl
fault_stays first t (ends.Joins on) = refl
fault_stays first t (ends.Done value) = refl
fault_stays first t (ends.Fault kind place) = refl

-- a move of a reached state leads to one
pub reached_on : (p : Program) (lim : Bounds) (st : State) (mv : Move) → IsReached p lim st → MayMove st mv → IsReached p lim (move_result p lim st mv).0
reached_on p lim st mv reached may =
    let run = run_more p lim reached.journal st mv (record { legal = reached.legal; same = reached.same }) may in
    record { journal = reached.journal ++ entry_of p lim st mv ∷ []; legal = run.legal; same = run.same }

-- a first fault stays
pub fault_stays_on : (p : Program) (lim : Bounds) → IsWellFormed p → (entries : List Entry) (st : State) (first : FirstFault) → IsReached p lim st → LegalFrom p lim st entries
    → st.first_fault ≡ Some first → (replayed p lim st entries).first_fault ≡ Some first
fault_stays_on p lim well [] st first reached legal is = is
fault_stays_on p lim well (entry ∷ entries) st first reached legal is =
    let end : End = (move_result p lim st entry.mv).1 in
    let still = (moves_leave_alone p lim st entry.mv well reached legal.0).first_fault
    ∙ (ap (λ (o : Option FirstFault). fault_after o entry.mv.task end) is ∙ fault_stays first entry.mv.task end) in
    fault_stays_on p lim well entries (move_result p lim st entry.mv).0 first (reached_on p lim st entry.mv reached legal.0) legal.2 still

-- where all tasks are done no move is legal
pub none_if_done : (st : State) (mv : Move) → AllTasksDone st → ¬ MayMove st mv
none_if_done st mv done may = by_kind mv.kind mv.task may where
  by_kind : (kind : Kind) (t : ℕ) → MayTake st kind t → ⊥
  by_kind Kind.Admit t may = mover_undone st Kind.Admit t may (may.0.0, may.0.1, done t may.0.0 may.0.1)
  by_kind Kind.Run t may = mover_undone st Kind.Run t may (may.0.0, may.0.1, done t may.0.0 may.0.1)

-- The end of a run.

-- a run that is over is not unfinished
pub not_unfinished : (end : RunEnd) → is_run_over end ≡ true → outcome_of end ≢ Unfinished
not_unfinished ends_of_runs.AllDone over is = cc (is)
not_unfinished (ends_of_runs.Fault task kind place) over is = cc (is)
not_unfinished (ends_of_runs.Stuck cycle) over is = cc (is)
not_unfinished ends_of_runs.Unfinished over is = cc (over)

-- and another one is
pub unfinished : (st : State) (end : RunEnd) → is_run_over end ≡ false → IsRunEnd st end → IsOutcome st Unfinished
unfinished st ends_of_runs.AllDone over is = absurd (cc (over))
unfinished st (ends_of_runs.Fault task kind place) over is = absurd (cc (over))
unfinished st (ends_of_runs.Stuck cycle) over is = absurd (cc (over))
unfinished st ends_of_runs.Unfinished over is = is
