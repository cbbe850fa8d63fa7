-- The tasks of the core, and what seats know, once the turn of one task was set.
use Rattle.std.proofs.Common.{◌≡◌, ◌≢◌, ℕ, Bool, true, false, List, [], ◌∷◌, Option, Some, None, if◌then◌else◌, refl, sym, ap, subst, ◌∙◌, inl, inr, ⊎_elim, eq-eqb, ne_eqb}
use Rattle.std.specs.Prelude.{slice_get, slice_set}
use Rattle.std.proofs.lemmas.Bool.{cases_eq}
use Rattle.seg_journal.specs.declared.journal.Entry.{Entry}
use Rattle.machine_state.specs.declared.state.State.{State}
use Rattle.machine_state.specs.Rows.{IsRow}
use Rattle.machine_state.proofs.lists.Places.{set_cases, set_other, set_same}
use Rattle.isolation_laws.specs.Admission.{made_last}
use Rattle.floor_laws.specs.declared.rule.view.HeldTurn.{HeldTurn}
use Rattle.floor_laws.specs.rule.Fitting.{IsUnheld, Turns}
use Rattle.floor_laws.specs.rule.Floors.{put_turn}
use Rattle.floor_laws.proofs.rule.Puts.{some_one}
use Rattle.floor_laws.proofs.rule.TurnLemmas.{turn_here, turn_of_other, turn_was, turns_elsewhere, unheld_else}
use Rattle.floor_laws.specs.admission.admission_core.Tasks.{Task, Tasks, Turn, Free, Taken, New, IsTask}
use Rattle.floor_laws.specs.admission.admission_core.Entries.{Becomes}
use Rattle.floor_laws.specs.admission.admission_core.States.{IsAmong, Record}
use Rattle.floor_laws.specs.admission.TasksOf.{AreTasksOf}
use Rattle.floor_laws.specs.rule.nodes.Fitting.{HasTurn, TasksFit, TurnIs}
use Rattle.floor_laws.specs.rule.nodes.TurnSteps.{of_others}

-- the tasks, but for task t
abbrev pub with_task : Tasks → ℕ → Task → Tasks
with_task tasks t task = record tasks { tasks = slice_set tasks.tasks t task }

pub becomes : (tasks : Tasks) (t : ℕ) (old new : Task) → IsTask tasks t old → Becomes tasks (with_task tasks t new) t new
becomes tasks t old new is = record {
  own = set_same tasks.tasks t old new is;
  others = λ s other. set_other tasks.tasks t s new other;
}

-- the turn of another task is as before
pub turn_else : (turns : Turns) (i t : ℕ) (x : Option HeldTurn) (u : ℕ) (turn : Turn) (unplaced : Bool) → u ≢ t → TurnIs turns u turn unplaced → TurnIs (put_turn turns i t x) u turn unplaced
turn_else turns i t x u Free unplaced other is = (unheld_else turns i t x u other is.0, is.1)
turn_else turns i t x u (Taken j) unplaced other is = ((is.0.0, turn_of_other turns i t x j u other ∙ is.0.1, is.0.2), is.1)
turn_else turns i t x u (New j) unplaced other is = (is.0, turn_of_other turns i t x j u other ∙ is.1, is.2, is.3)

module _ (journal : List Entry) (st : State) (turns : Turns) (tasks : Tasks) (fit : TasksFit journal st turns tasks) (i t : ℕ) (x : Option HeldTurn) (old : Task)
    (turn : Turn) (unplaced : Bool) (is : IsTask tasks t old) where
  abbrev new : Task
  new = record old { turn = turn; unplaced = unplaced }

  rows_set : AreTasksOf journal st (with_task tasks t (record old { turn = turn; unplaced = unplaced }))
  rows_set = record {
    links = fit.rows.links;
    row = λ u task there.
        ⊎_elim
        (λ (own : (u ≡ t) × (new ≡ task)).
        let row = fit.rows.row t old is in (
          row.0,
          subst (λ (n : ℕ). IsRow st n row.0) (sym own.0) row.1,
          ap (λ (y : Task). y.effects) (sym own.1) ∙ row.2,
          ap (λ (y : Task). y.status) (sym own.1) ∙ row.3,
          ap (λ (y : Task). y.made) (sym own.1) ∙ (row.4 ∙ ap (λ (n : ℕ). made_last n journal) (sym own.0)),
        ))
        (λ (other : (u ≢ t) × (slice_get tasks.tasks u ≡ Some task)). fit.rows.row u task other.1)
        (set_cases tasks.tasks t u new task there);
    task = λ u row there.
        ⊎_elim
        (λ (own : u ≡ t). (new, subst (λ (n : ℕ). IsTask (with_task tasks t new) n new) (sym own) (set_same tasks.tasks t old new is)))
        (λ (other : u ≢ t). let task = fit.rows.task u row there in (task.0, set_other tasks.tasks t u new other ∙ task.1))
        (cases_eq u t);
  }

  pub tasks_set : TurnIs (put_turn turns i t x) t turn unplaced → TasksFit journal st (put_turn turns i t x) (with_task tasks t (record old { turn = turn; unplaced = unplaced }))
  tasks_set here = record {
    rows = rows_set;
    whose = λ u task there.
        ⊎_elim
        (λ (own : (u ≡ t) × (new ≡ task)).
        subst (λ (n : ℕ). TurnIs (put_turn turns i t x) n task.turn task.unplaced) (sym own.0)
        (subst (λ (y : Task). TurnIs (put_turn turns i t x) t y.turn y.unplaced) own.1 here))
        (λ (other : (u ≢ t) × (slice_get tasks.tasks u ≡ Some task)). turn_else turns i t x u task.turn task.unplaced other.0 (fit.whose u task other.1))
        (set_cases tasks.tasks t u new task there);
  }

-- Who has a turn once one was set.

pub has_more : (turns : Turns) (i t : ℕ) (turn : HeldTurn) (j u : ℕ) → HasTurn turns j u → HasTurn (put_turn turns i t (Some turn)) j u
has_more turns i t turn j u has =
    ⊎_elim
    (λ (task : u ≡ t).
    ⊎_elim
    (λ (seat : j ≡ i). (turn, ap (λ (n : ℕ). put_turn turns i t (Some turn) n u) seat ∙ (ap (put_turn turns i t (Some turn) i) task ∙ turn_here turns i t (Some turn))))
    (λ (other : j ≢ i). (has.0, ap (λ (g : ℕ → Option HeldTurn). g u) (turns_elsewhere turns i t (Some turn) j other) ∙ has.1))
    (cases_eq j i))
    (λ (other : u ≢ t). (has.0, turn_of_other turns i t (Some turn) j u other ∙ has.1))
    (cases_eq u t)

pub has_else : (turns : Turns) (i t : ℕ) (x : Option HeldTurn) (j u : ℕ) → u ≢ t → HasTurn turns j u → HasTurn (put_turn turns i t x) j u
has_else turns i t x j u other has = (has.0, turn_of_other turns i t x j u other ∙ has.1)

-- a first turn is one that was set, or was one before
pub first_back : (turns : Turns) (i t : ℕ) (new : HeldTurn) → (new.first ≡ true → (old : HeldTurn) × (turns i t ≡ Some old) × (old.first ≡ true)) → (j u : ℕ) (y : HeldTurn)
    → put_turn turns i t (Some new) j u ≡ Some y → y.first ≡ true → (old : HeldTurn) × (turns j u ≡ Some old) × (old.first ≡ true)
first_back turns i t new own j u y at first =
    ⊎_elim
    (λ (here : (j ≡ i) × (u ≡ t) × (Some new ≡ Some y)).
    let was = own (ap (λ (h : HeldTurn). h.first) (some_one here.2) ∙ first) in
    (was.0, ap (λ (n : ℕ). turns n u) here.0 ∙ (ap (turns i) here.1 ∙ was.1), was.2))
    (λ (there : ((j ≡ i) → u ≢ t) × (turns j u ≡ Some y)). (y, there.1, first))
    (turn_was turns i t (Some new) j u y at)

-- no first turn is set
pub not_first : (turns : Turns) (i t : ℕ) (new : HeldTurn) → new.first ≡ false → new.first ≡ true → (old : HeldTurn) × (turns i t ≡ Some old) × (old.first ≡ true)
not_first turns i t new taken first = absurd (false_true (sym taken ∙ first))
  where
    false_true : false ≡ true → ⊥
    false_true h = cc

none_of : {A : Type 0} (o : Option A) → ((x : A) → o ≡ Some x → ⊥) → o ≡ None
none_of None never = refl
none_of (Some x) never = absurd (never x refl)

-- a turn that was at one seat alone and is given is at none
pub given_away : (turns : Turns) (i t : ℕ) → ((j : ℕ) (other : HeldTurn) → turns j t ≡ Some other → j ≡ i) → IsUnheld (put_turn turns i t None) t
given_away turns i t alone j =
    ⊎_elim
    (λ (same : j ≡ i). ap (λ (n : ℕ). put_turn turns i t None n t) same ∙ turn_here turns i t None)
    (λ (differ : j ≢ i).
    ap (λ (g : ℕ → Option HeldTurn). g t) (turns_elsewhere turns i t None j differ) ∙ none_of (turns j t) (λ other at. differ (alone j other at)))
    (cases_eq j i)

-- Records of other tasks.

pub among_others : (t : ℕ) (x : Record) (records : List Record) → IsAmong x (of_others t records) → IsAmong x records × (x.task ≢ t)
among_others t x [] among = absurd among
among_others t x (r ∷ records) among =
    ⊎_elim
    (λ (same : r.task ≡ t).
    let rest : IsAmong x (of_others t records) = subst (λ (b : Bool). IsAmong x (if b then of_others t records else r ∷ of_others t records)) (eq-eqb r.task t same) among in
    let found = among_others t x records rest in
    (inr found.0, found.1))
    (λ (other : r.task ≢ t).
    let rest : IsAmong x (r ∷ of_others t records) = subst (λ (b : Bool). IsAmong x (if b then of_others t records else r ∷ of_others t records)) (ne_eqb r.task t other) among in
    ⊎_elim
    (λ (is : x ≡ r). (inl is, λ task. other (sym (ap (λ (y : Record). y.task) is) ∙ task)))
    (λ (more : IsAmong x (of_others t records)). let found = among_others t x records more in (inr found.0, found.1))
    rest)
    (cases_eq r.task t)

pub others_among : (t : ℕ) (x : Record) (records : List Record) → IsAmong x records → x.task ≢ t → IsAmong x (of_others t records)
others_among t x [] among other = absurd among
others_among t x (r ∷ records) among other =
    ⊎_elim
    (λ (same : r.task ≡ t).
    subst (λ (b : Bool). IsAmong x (if b then of_others t records else r ∷ of_others t records)) (sym (eq-eqb r.task t same))
    (⊎_elim
    (λ (is : x ≡ r). absurd (other (ap (λ (y : Record). y.task) is ∙ same)))
    (λ (rest : IsAmong x records). others_among t x records rest other)
    among))
    (λ (differ : r.task ≢ t).
    subst (λ (b : Bool). IsAmong x (if b then of_others t records else r ∷ of_others t records)) (sym (ne_eqb r.task t differ))
    (⊎_elim
    (λ (is : x ≡ r). inl is)
    (λ (rest : IsAmong x records). inr (others_among t x records rest other))
    among))
    (cases_eq r.task t)
