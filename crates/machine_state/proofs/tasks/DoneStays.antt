-- A task that is done stays so over legal moves, with its value.
use Rattle.std.proofs.Common.{◌≢◌, ℕ, ℤ, List, [], ◌∷◌, inl, inr, refl, subst}
use Rattle.seg_journal.specs.declared.journal.Entry.{Entry}
use Rattle.seg_journal.specs.declared.moves.Kind.{Kind}
use Rattle.twe_base.specs.Limits.{Bounds}
use Rattle.twe_program.specs.Program.{Program}
use Rattle.machine_state.specs.declared.state.State.{State}
use Rattle.machine_state.specs.declared.state.TaskStatus.TheVariants.{Done}
use Rattle.machine_state.specs.Changes.{IsDoneWith}
use Rattle.machine_state.specs.Legal.{MayTake}
use Rattle.machine_state.specs.Moves.{joined_row, result_by_kind}
use Rattle.machine_state.specs.Rows.{HasStatus}
use Rattle.machine_state.specs.Runs.{LegalFrom, replayed}
use Rattle.machine_state.proofs.tasks.Movers.{mover_undone}
use Rattle.machine_state.proofs.tasks.OtherRows.{row_after}

-- over one
pub value_stays : (p : Program) (lim : Bounds) (st : State) (kind : Kind) (t u : ℕ) (value : ℤ) → MayTake st kind t → IsDoneWith st u value
    → IsDoneWith (result_by_kind p lim st kind t).0 u value
value_stays p lim st kind t u value may done =
    let other : u ≢ t = λ is. mover_undone st kind t may (subst (λ (n : ℕ). HasStatus st n Done) is (done.row, done.there, done.done)) in
    elim (row_after p lim st t u other done.row done.there kind) [
      | inl stays ↦ record { row = done.row; there = stays.1; done = done.done; value_is = done.value_is }
      | inr marked ↦ record { row = joined_row done.row; there = marked.1; done = done.done; value_is = done.value_is }
    ]

-- over all moves of a journal
pub value_stays_on : (p : Program) (lim : Bounds) (st : State) (entries : List Entry) (u : ℕ) (value : ℤ) → LegalFrom p lim st entries → IsDoneWith st u value
    → IsDoneWith (replayed p lim st entries) u value
value_stays_on p lim st [] u value legal done = done
value_stays_on p lim st (entry ∷ entries) u value legal done =
    value_stays_on p lim (result_by_kind p lim st entry.mv.kind entry.mv.task).0 entries u value legal.2 (value_stays p lim st entry.mv.kind entry.mv.task u value legal.0 done)

-- whatever the value
pub done_stays : (p : Program) (lim : Bounds) (st : State) (kind : Kind) (t u : ℕ) → MayTake st kind t → HasStatus st u Done → HasStatus (result_by_kind p lim st kind t).0 u Done
done_stays p lim st kind t u may done =
    let later = value_stays p lim st kind t u done.0.value may (record { row = done.0; there = done.1; done = done.2; value_is = refl }) in
    (later.row, later.there, later.done)
