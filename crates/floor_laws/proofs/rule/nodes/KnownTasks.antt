-- What the turns and rows that a seat knows say of the tasks of the core.
use Rattle.std.proofs.Common.{◌≡◌, ◌≢◌, ℕ, true, false, List, Some, is_some, refl, sym, ap, subst, ◌∙◌, inl, inr, ⊎_elim, ◌⊎◌}
use Rattle.machine_state.specs.declared.state.State.{State}
use Rattle.machine_state.specs.declared.state.TaskRow.{TaskRow}
use Rattle.machine_state.specs.declared.state.TaskStatus.{TaskStatus}
use Rattle.machine_state.specs.declared.state.TaskStatus.TheVariants as status
use Rattle.machine_state.specs.Rows.{IsRow}
use Rattle.machine_state.proofs.lists.Places.{got_one}
use Rattle.seg_journal.specs.declared.journal.Entry.{Entry}
use Rattle.floor_laws.specs.declared.rule.view.HeldTurn.{HeldTurn}
use Rattle.floor_laws.specs.rule.Fitting.{OneHolder, RowsAreKnown, Turns}
use Rattle.floor_laws.proofs.rule.Puts.{none_some, some_one}
use Rattle.floor_laws.specs.admission.admission_core.Tasks.{Status, Task, Tasks, Turn, Free, Taken, New, IsTask, IsLive, IsLiveStatus}
use Rattle.floor_laws.specs.admission.admission_core.Tasks as core
use Rattle.floor_laws.proofs.admission.admission_core.FamilyLemmas.{one_task}
use Rattle.floor_laws.specs.admission.TasksOf.{status_of}
use Rattle.floor_laws.specs.rule.nodes.Fitting.{HasTurn, TasksFit, TurnIs}

false_true : false ≡ true → ⊥
false_true h = cc

-- the task of a turn that a seat has
pub record KnownTask (tasks : Tasks) (t : ℕ) (row : TaskRow) : Type 0 where
  pub task : Task
  pub is : IsTask tasks t task
  pub effects : task.effects ≡ row.effects.effects
  pub status_is : task.status ≡ status_of row.status

-- a task is the one of its row
pub record RowOfTask (st : State) (t : ℕ) (task : Task) : Type 0 where
  pub row : TaskRow
  pub there : IsRow st t row
  pub effects : task.effects ≡ row.effects.effects
  pub status_is : task.status ≡ status_of row.status

module _ (journal : List Entry) (st : State) (turns : Turns) (tasks : Tasks) (fit : TasksFit journal st turns tasks) where
  pub row_of : (t : ℕ) (task : Task) → IsTask tasks t task → RowOfTask st t task
  row_of t task is = let found = fit.rows.row t task is in record { row = found.0; there = found.1; effects = found.2; status_is = found.3 }

  pub task_of_row : (t : ℕ) (row : TaskRow) → IsRow st t row → KnownTask tasks t row
  task_of_row t row there =
      let found = fit.rows.task t row there in
      let back = row_of t found.0 found.1 in
      let same : back.row ≡ row = got_one _ back.there there in
      record {
        task = found.0;
        is = found.1;
        effects = back.effects ∙ ap (λ (r : TaskRow). r.effects.effects) same;
        status_is = back.status_is ∙ ap (λ (r : TaskRow). status_of r.status) same;
      }

  module _ (known : RowsAreKnown st turns) (one : OneHolder turns) where
    pub task_of_turn : (i t : ℕ) (turn : HeldTurn) → turns i t ≡ Some turn → KnownTask tasks t turn.row
    task_of_turn i t turn has =
        let by = known i t turn has in
        let found = task_of_row t by.row by.there in
        record {
          task = found.task;
          is = found.is;
          effects = found.effects ∙ ap (λ (r : TaskRow). r.effects.effects) by.same;
          status_is = found.status_is ∙ ap (λ (r : TaskRow). status_of r.status) by.same;
        }

    one_turn : (i j t : ℕ) (turn other : HeldTurn) → turns i t ≡ Some turn → turns j t ≡ Some other → turn ≡ other
    one_turn i j t turn other has at =
        some_one (sym has ∙ (ap (λ (x : ℕ). turns x t) (one i j t turn other has at) ∙ at))

    -- a turn that a seat took is its turn in the core
    pub taken_turn : (i t : ℕ) (held : HeldTurn) (task : Task) → turns i t ≡ Some held → held.first ≡ false → IsTask tasks t task
        → (turn : Turn) → task.turn ≡ turn → TurnIs turns t turn task.unplaced → task.turn ≡ Taken i
    taken_turn i t held task has taken is Free same fits = absurd (none_some (sym (fits.0 i) ∙ has))
    taken_turn i t held task has taken is (Taken j) same fits = same ∙ ap Taken (one j i t fits.0.0 held fits.0.1 has)
    taken_turn i t held task has taken is (New j) same fits =
        absurd (false_true (sym taken ∙ (ap (λ (h : HeldTurn). h.first) (one_turn i j t held fits.0 has fits.1) ∙ fits.2)))

    -- a first turn that a seat has is its first turn in the core
    pub first_turn : (i t : ℕ) (held : HeldTurn) (task : Task) → turns i t ≡ Some held → held.first ≡ true → IsTask tasks t task
        → (turn : Turn) → task.turn ≡ turn → TurnIs turns t turn task.unplaced → (task.turn ≡ New i) × (task.unplaced ≡ is_some held.row.parent)
    first_turn i t held task has first is Free same fits = absurd (none_some (sym (fits.0 i) ∙ has))
    first_turn i t held task has first is (Taken j) same fits =
        absurd (false_true (sym fits.0.2 ∙ (ap (λ (h : HeldTurn). h.first) (one_turn j i t fits.0.0 held fits.0.1 has) ∙ first)))
    first_turn i t held task has first is (New j) same fits = (
      same ∙ ap New (one j i t fits.0 held fits.1 has),
      fits.3 ∙ ap (λ (h : HeldTurn). is_some h.row.parent) (one_turn j i t fits.0 held fits.1 has),
    )

    -- whoever has a turn in the core has it
    pub has_taken : (i t : ℕ) (task : Task) → IsTask tasks t task → task.turn ≡ Taken i → HasTurn turns i t
    has_taken i t task is taken =
        let fits = subst (λ (turn : Turn). TurnIs turns t turn task.unplaced) taken (fit.whose t task is) in (fits.0.0, fits.0.1)

inactive_not_live : (task : Task) (to : TaskStatus) → task.status ≡ status_of to → to ≢ status.Enabled → (task.status ≡ core.Made) ⊎ (¬ IsLiveStatus task.status)
inactive_not_live task status.Made same other = inl same
inactive_not_live task status.Enabled same other = absurd (other refl)
inactive_not_live task status.Done same other = inr (λ live. subst IsLiveStatus same live)
inactive_not_live task status.Faulted same other = inr (λ live. subst IsLiveStatus same live)

-- a task that is not enabled is to be admitted, or is not live
pub made_or_dead : (tasks : Tasks) (t : ℕ) (task : Task) (to : TaskStatus) → IsTask tasks t task → task.status ≡ status_of to → to ≢ status.Enabled
    → (task.status ≡ core.Made) ⊎ (¬ IsLive tasks t)
made_or_dead tasks t task to is same other =
    ⊎_elim
    (λ (made : task.status ≡ core.Made). inl made)
    (λ (dead : ¬ IsLiveStatus task.status). inr (λ (live : IsLive tasks t). dead (subst (λ (x : Task). IsLiveStatus x.status) (one_task tasks t live.0 task live.1 is) live.2)))
    (inactive_not_live task to same other)
