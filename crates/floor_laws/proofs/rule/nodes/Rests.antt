-- The nodes keep the rule when a floor starts.
use Rattle.std.proofs.Common.{◌≡◌, ◌≢◌, ◌+◌, ℕ, zero, suc, List, [], ◌∷◌, Some, None, refl, sym, ap, subst, ◌∙◌, arith}
use Rattle.std.specs.Prelude.{Contains, slice_get}
use Rattle.region_paths.specs.declared.elements.Elem.{Elem}
use Rattle.prefix_tree.specs.Nodes.{IsTreeOfPaths}
use Rattle.seg_journal.specs.declared.journal.Entry.{Entry}
use Rattle.twe_base.specs.Limits.{Bounds}
use Rattle.twe_program.specs.Program.{Program}
use Rattle.twe_program.specs.WellFormed.{IsWellFormed}
use Rattle.isolation_laws.specs.soundness.KeepsEffects.{KeepsEffects}
use Rattle.machine_state.specs.declared.state.State.{State}
use Rattle.machine_state.specs.declared.state.TaskRow.{TaskRow}
use Rattle.machine_state.specs.declared.state.TaskStatus.{TaskStatus}
use Rattle.machine_state.specs.declared.state.TaskStatus.TheVariants as status
use Rattle.machine_state.specs.Moves.{start_of}
use Rattle.machine_state.specs.Rows.{IsRow}
use Rattle.machine_state.specs.Runs.{IsRun}
use Rattle.machine_state.proofs.lists.Places.{got_one}
use Rattle.seg_journal.specs.declared.numbered.NumberedEntry.{NumberedEntry}
use Rattle.seg_journal.specs.Merging.{journal_of}
use Rattle.floor_laws.specs.rule.Floors.{put}
use Rattle.floor_laws.specs.rule.Steps.{floor_at}
use Rattle.floor_laws.proofs.rule.Puts.{none_some, put_else, some_one}
use Rattle.floor_laws.specs.admission.admission_core.Tasks.{Task, Tasks, IsTask}
use Rattle.floor_laws.specs.admission.admission_core.Tasks as core
use Rattle.floor_laws.specs.admission.admission_core.Conditions.{MeetsConditions}
use Rattle.floor_laws.specs.admission.admission_core.States.{Record}
use Rattle.floor_laws.specs.admission.admission_core.Rule.{CoreIsQuiet, quiet}
use Rattle.floor_laws.specs.admission.TasksOf.{AreTasksOf, status_of}
use Rattle.floor_laws.proofs.admission.MeetLemmas.{runs_meet}
use Rattle.floor_laws.specs.rule.nodes.Fitting.{AreCounted, TasksFit, TurnIs}
use Rattle.floor_laws.specs.rule.nodes.Rule.{KeepsNodes}
use Rattle.floor_laws.specs.rule.nodes.Starts.{AreContents, AreOfEnabled, core_at, task_at_rest, tasks_at_rest, tree_at}

-- The tasks at rest.

-- the task that these rows give a task
pub record RestOf (journal : List Entry) (rows : List TaskRow) (k t : ℕ) (task : Task) : Type 0 where
  pub row : TaskRow
  pub there : slice_get rows t ≡ Some row
  pub same : task ≡ task_at_rest journal (t + k) row

module _ (journal : List Entry) where
  pub rest_of : (rows : List TaskRow) (k t : ℕ) (task : Task) → slice_get (tasks_at_rest journal k rows) t ≡ Some task → RestOf journal rows k t task
  rest_of [] k t task found = absurd (none_some found)
  rest_of (row ∷ rows) k zero task found =
      record { row = row; there = refl; same = sym (some_one found) ∙ ap (λ (n : ℕ). task_at_rest journal n row) (omega arith) }
  rest_of (row ∷ rows) k (suc t) task found =
      let rest = rest_of rows (k + 1) t task found in
      let number : t + (k + 1) ≡ suc t + k = omega arith in
      record { row = rest.row; there = rest.there; same = rest.same ∙ ap (λ (n : ℕ). task_at_rest journal n rest.row) number }

  pub rest_there : (rows : List TaskRow) (k t : ℕ) (row : TaskRow) → slice_get rows t ≡ Some row → (task : Task) × (slice_get (tasks_at_rest journal k rows) t ≡ Some task)
  rest_there [] k t row found = absurd (none_some found)
  rest_there (first ∷ rows) k zero row found = (task_at_rest journal k first, refl)
  rest_there (first ∷ rows) k (suc t) row found = rest_there rows (k + 1) t row found

  module _ (st : State) where
    abbrev rest : Tasks
    rest = record { tasks = tasks_at_rest journal 0 st.tasks; links = st.links }

    pub task_rest : (t : ℕ) (task : Task) → IsTask rest t task → (row : TaskRow) × IsRow st t row × (task ≡ task_at_rest journal t row)
    task_rest t task is =
        let found = rest_of st.tasks 0 t task is in
        let number : t + 0 ≡ t = omega arith in
        (found.row, found.there, found.same ∙ ap (λ (n : ℕ). task_at_rest journal n found.row) number)

    pub rests_are : AreTasksOf journal st rest
    rests_are = record {
      links = refl;
      row = λ t task is.
          let found = task_rest t task is in
          (found.0, found.1, ap (λ (x : Task). x.effects) found.2, ap (λ (x : Task). x.status) found.2, ap (λ (x : Task). x.made) found.2);
      task = λ t row there. rest_there st.tasks 0 t row there;
    }

enabled_back : (x : TaskStatus) → status_of x ≡ core.Enabled → x ≡ status.Enabled
enabled_back status.Made h = absurd (cc)
enabled_back status.Enabled h = refl
enabled_back status.Done h = absurd (cc)
enabled_back status.Faulted h = absurd (cc)

-- Counts at a start.

first_counts : (records : List Record) → AreCounted records (put (λ i. []) 0 records) (λ i. [])
first_counts records = record {
  seats = 1;
  beyond = λ i past.
      let other : i ≢ 0 = λ same. omega (arith, past, same) in
      (put_else (λ (j : ℕ). []) 0 i records other, refl);
  balance = λ test. omega arith;
}

module _ (nodes : List (List Elem)) (p : Program) (lim : Bounds) (log : List NumberedEntry) (st : State) (records : List Record) (contents : ℕ → List Record)
    (well : IsWellFormed p) (effects : KeepsEffects p) (run : IsRun p lim (journal_of log) st) (enabled : AreOfEnabled nodes st records) (are : AreContents records contents) where
  abbrev journal : List Entry
  journal = journal_of log

  tasks_fit : TasksFit (journal_of log) st (λ i t. None) (core_at (journal_of log) st records).tasks
  tasks_fit = record {
    rows = rests_are journal st;
    whose = λ t task is.
        let found = task_rest journal st t task is in
        subst (λ (x : Task). TurnIs (λ i u. None) t x.turn x.unplaced) (sym found.2) (λ i. refl, refl);
  }

  meets : MeetsConditions (core_at (journal_of log) st records).tasks
  meets = runs_meet p well effects lim journal run.legal (rest journal st) (subst (λ (s : State). AreTasksOf journal s (rest journal st)) run.same (rests_are journal st))

  is_quiet : CoreIsQuiet nodes (core_at (journal_of log) st records)
  is_quiet = record {
    conditions = meets;
    activities = λ w. refl;
    placed = λ t task is. ap (λ (x : Task). x.unplaced) (task_rest journal st t task is).2;
    stand = λ t task is active e has.
        let found = task_rest journal st t task is in
        enabled.all t found.0 e found.1 (enabled_back found.0.status (sym (ap (λ (x : Task). x.status) found.2) ∙ active))
        (subst (λ (x : Task). Contains x.effects e) found.2 has);
    only = λ r among.
        let own = enabled.only r among in
        let task = rest_there journal st.tasks 0 r.task own.placed.row own.placed.there in
        let found = task_rest journal st r.task task.0 task.1 in
        let same : found.0 ≡ own.placed.row = got_one (slice_get st.tasks r.task) found.1 own.placed.there in (
          own.placed.place,
          (
            task.0,
            task.1,
            ap (λ (x : Task). x.status) found.2 ∙ (ap (λ (row : TaskRow). status_of row.status) same ∙ ap status_of own.enabled),
            subst (λ (x : Task). Contains x.effects r.effect) (sym found.2) (subst (λ (row : TaskRow). Contains row.effects.effects r.effect) (sym same) own.placed.effect),
          ),
        );
  }

  keeps_at : KeepsNodes nodes p lim log (floor_at log st) (tree_at records contents) (core_at (journal_of log) st records)
  keeps_at = record {
    reached = quiet is_quiet;
    tasks = subst (λ (s : State). TasksFit (journal_of log) s (λ i t. None) (core_at (journal_of log) st records).tasks) run.same tasks_fit;
    activities = λ i. refl;
    locks = record { words = λ n i h. none_some h.1; once = λ i a is. absurd (none_some is) };
    contents = record {
      homes = λ n. (λ i h. none_some h.1, are n);
      out = λ i n h. none_some h.1;
    };
    records = record { once = enabled.once; counts = first_counts records };
    known = record {
      owned = λ r row among there other.
          let own = enabled.only r among in
          let there_st : IsRow st r.task row = subst (λ (s : State). IsRow s r.task row) (sym run.same) there in
          let same : own.placed.row ≡ row = got_one (slice_get st.tasks r.task) own.placed.there there_st in
          absurd (other (sym (ap (λ (x : TaskRow). x.status) same) ∙ own.enabled));
      first_fresh = λ i r turn stands has first. absurd (none_some has);
      fresh_stand = λ i r among. absurd among;
      clear_are = λ i fact among. absurd among;
      waits_hold = λ i fact among. absurd among;
    };
  }

pub wakes : (nodes : List (List Elem)) (p : Program) (lim : Bounds) (log : List NumberedEntry) (st : State) (records : List Record) (contents : ℕ → List Record)
    → IsWellFormed p → KeepsEffects p → IsTreeOfPaths nodes → IsRun p lim (journal_of log) st → AreOfEnabled nodes st records → AreContents records contents
    → KeepsNodes nodes p lim log (floor_at log st) (tree_at records contents) (core_at (journal_of log) st records)
wakes nodes p lim log st records contents well effects paths run enabled are = keeps_at nodes p lim log st records contents well effects run enabled are

made_enabled : status.Made ≡ status.Enabled → ⊥
made_enabled h = cc

-- at the start of a run no task is enabled
start_made : (p : Program) (lim : Bounds) (t : ℕ) (row : TaskRow) → IsRow (start_of p lim) t row → row.status ≡ status.Made
start_made p lim zero row there = ap (λ (x : TaskRow). x.status) (sym (some_one there))
start_made p lim (suc t) row there = absurd (none_some there)

pub starts : (nodes : List (List Elem)) (p : Program) (lim : Bounds) → IsWellFormed p → KeepsEffects p → IsTreeOfPaths nodes
    → KeepsNodes nodes p lim [] (floor_at [] (start_of p lim)) (tree_at [] (λ n. [])) (core_at [] (start_of p lim) [])
starts nodes p lim well effects paths =
    wakes nodes p lim [] (start_of p lim) [] (λ n. []) well effects paths
    (record { legal = tt; same = refl })
    (record {
      once = tt;
      only = λ r among. absurd among;
      all = λ t row e there enabled has. absurd (made_enabled (sym (start_made p lim t row there) ∙ enabled));
    })
    (λ n r. (λ among. absurd among, λ pair. pair.0))
