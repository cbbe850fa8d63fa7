-- The tasks of the core after an entry of the machine.
use Rattle.std.proofs.Common.{◌≡◌, ◌≢◌, ◌<◌, ◌+◌, ◌++◌, ℕ, zero, suc, List, [], ◌∷◌, length, Option, Some, refl, sym, ap, subst, ◌∙◌, ⊎_elim, arith, length-set}
use Rattle.std.specs.Prelude.{slice_get, slice_set}
use Rattle.std.proofs.lemmas.Bool.{cases_eq}
use Rattle.std.proofs.lemmas.Option.{slice_get_within}
use Rattle.seg_journal.specs.declared.journal.Entry.{Entry}
use Rattle.machine_state.specs.declared.state.State.{State}
use Rattle.machine_state.specs.declared.state.TaskRow.{TaskRow}
use Rattle.machine_state.specs.Rows.{IsRow}
use Rattle.machine_state.proofs.lists.Places.{below_there, put_before, put_cases, put_last, set_cases, set_other, set_same}
use Rattle.isolation_laws.specs.Admission.{made_last}
use Rattle.floor_laws.proofs.rule.EntryLemmas.{Stays}
use Rattle.floor_laws.specs.admission.admission_core.Tasks.{Task, Tasks, IsTask}
use Rattle.floor_laws.specs.admission.TasksOf.{AreTasksOf, status_of}

-- two lists that have elements at the same places are equally long
same_length : {A B : Type 0} (xs : List A) (ys : List B) → ((n : ℕ) (x : A) → slice_get xs n ≡ Some x → (y : B) × (slice_get ys n ≡ Some y))
    → ((n : ℕ) (y : B) → slice_get ys n ≡ Some y → (x : A) × (slice_get xs n ≡ Some x)) → length xs ≡ length ys
same_length [] [] there back = refl
same_length [] (y ∷ ys) there back = let found = back zero y refl in absurd (cc (found.1))
same_length (x ∷ xs) [] there back = let found = there zero x refl in absurd (cc (found.1))
same_length (x ∷ xs) (y ∷ ys) there back = ap suc (same_length xs ys (λ n. there (suc n)) (λ n. back (suc n)))

-- there are as many tasks as rows
pub tasks_long : (journal : List Entry) (st : State) (tasks : Tasks) → AreTasksOf journal st tasks → length tasks.tasks ≡ length st.tasks
tasks_long journal st tasks fit =
    same_length tasks.tasks st.tasks
    (λ n x at. let found = fit.row n x at in (found.0, found.1))
    (λ n r at. fit.task n r at)

module _ (journal more : List Entry) (st after : State) (tasks : Tasks) (fit : AreTasksOf journal st tasks) (t : ℕ) (old : Task) (is : IsTask tasks t old)
    (stays : (u : ℕ) (row : TaskRow) → u ≢ t → IsRow st u row → Stays after u row) (others : (u : ℕ) → u ≢ t → made_last u more ≡ made_last u journal)
    (row : TaskRow) (there : IsRow after t row) (effects : old.effects ≡ row.effects.effects) (made : Option ℕ) (made_is : made ≡ made_last t more) where
  -- the task of the entry
  abbrev pub changed : Task
  changed = record old { status = status_of row.status; made = made }

  abbrev RowOf : ℕ → Task → Type 0
  RowOf u task = (r : TaskRow) × IsRow after u r × (task.effects ≡ r.effects.effects) × (task.status ≡ status_of r.status) × (task.made ≡ made_last u more)

  own_row : RowOf t (record old { status = status_of row.status; made = made })
  own_row = (row, there, effects, refl, made_is)

  other_row : (u : ℕ) (task : Task) → u ≢ t → IsTask tasks u task → RowOf u task
  other_row u task other at =
      let was = fit.row u task at in
      let now = stays u was.0 other was.1 in (
        now.now,
        now.there,
        was.2 ∙ ap (λ (r : TaskRow). r.effects.effects) (sym now.same),
        was.3 ∙ ap (λ (r : TaskRow). status_of r.status) (sym now.same),
        was.4 ∙ sym (others u other),
      )

  set_row : (u : ℕ) (task : Task) → slice_get (slice_set tasks.tasks t changed) u ≡ Some task → RowOf u task
  set_row u task at =
      ⊎_elim
      (λ (own : (u ≡ t) × (changed ≡ task)). subst (λ (n : ℕ). RowOf n task) (sym own.0) (subst (RowOf t) own.1 own_row))
      (λ (other : (u ≢ t) × (slice_get tasks.tasks u ≡ Some task)). other_row u task other.0 other.1)
      (set_cases tasks.tasks t u changed task at)

  set_task : (u : ℕ) → u < length st.tasks → (task : Task) × (slice_get (slice_set tasks.tasks t changed) u ≡ Some task)
  set_task u below =
      ⊎_elim
      (λ (own : u ≡ t). (changed, subst (λ (n : ℕ). slice_get (slice_set tasks.tasks t changed) n ≡ Some changed) (sym own) (set_same tasks.tasks t old changed is)))
      (λ (other : u ≢ t).
      let before = below_there st.tasks u below in
      let task = fit.task u before.0 before.1 in
      (task.0, set_other tasks.tasks t u changed other ∙ task.1))
      (cases_eq u t)

  -- no task was made
  pub ran_tasks : length after.tasks ≡ length st.tasks → AreTasksOf more after (record { tasks = slice_set tasks.tasks t (record old { status = status_of row.status; made = made }); links = after.links })
  ran_tasks as_many = record {
    links = refl;
    row = λ u task at. set_row u task at;
    task = λ u r at.
        let below = slice_get_within after.tasks u r at in
        set_task u (subst (λ (n : ℕ). u < n) as_many below);
  }

  -- a task was made
  module _ (c : ℕ) (number : c ≡ length st.tasks) (one_more : length after.tasks ≡ length st.tasks + 1) (child : Task) (child_row : TaskRow)
      (child_there : IsRow after c child_row) (child_effects : child.effects ≡ child_row.effects.effects) (child_status : child.status ≡ status_of child_row.status)
      (child_made : child.made ≡ made_last c more) where
    abbrev set : List Task
    set = slice_set tasks.tasks t changed

    set_length : length (slice_set tasks.tasks t changed) ≡ length st.tasks
    set_length = length-set tasks.tasks t changed ∙ tasks_long journal st tasks fit

    pub made_tasks : AreTasksOf more after (record { tasks = slice_set tasks.tasks t (record old { status = status_of row.status; made = made }) ++ child ∷ []; links = after.links })
    made_tasks = record {
      links = refl;
      row = λ u task at.
          ⊎_elim
          (λ (before : slice_get set u ≡ Some task). set_row u task before)
          (λ (last : (u ≡ length set) × (child ≡ task)).
          let here : u ≡ c = last.0 ∙ (set_length ∙ sym number) in
          subst (λ (n : ℕ). RowOf n task) (sym here) (subst (RowOf c) last.1 (child_row, child_there, child_effects, child_status, child_made)))
          (put_cases set child u task at);
      task = λ u r at.
          let below : u < length st.tasks + 1 = subst (λ (n : ℕ). u < n) one_more (slice_get_within after.tasks u r at) in
          ⊎_elim
          (λ (last : u ≡ length st.tasks). (child, put_last set child u (last ∙ sym set_length)))
          (λ (other : u ≢ length st.tasks).
          let found = set_task u (omega (arith, below, other)) in
          (found.0, put_before set child u found.0 found.1))
          (cases_eq u (length st.tasks));
    }
