-- How the nodes lie when a floor starts: nobody has locked one, and the records are those of the enabled tasks.
use Rattle.std.specs.Prelude.{◌≡◌, ◌+◌, ℕ, false, List, [], ◌∷◌, Some, None, Contains}
use Rattle.region_paths.specs.declared.elements.Elem.{Elem}
use Rattle.effect_sets.specs.declared.effects.Effect.{Effect}
use Rattle.seg_journal.specs.declared.journal.Entry.{Entry}
use Rattle.machine_state.specs.declared.state.State.{State}
use Rattle.machine_state.specs.declared.state.TaskRow.{TaskRow}
use Rattle.machine_state.specs.declared.state.TaskStatus.TheVariants as status
use Rattle.machine_state.specs.Rows.{IsRow}
use Rattle.isolation_laws.specs.Admission.{made_last}
use Rattle.floor_laws.specs.rule.Floors.{put}
use Rattle.floor_laws.specs.admission.admission_core.Tasks.{Task, Free}
use Rattle.floor_laws.specs.admission.admission_core.States.{Record, IsAmong, IsPlaceOf}
use Rattle.floor_laws.specs.admission.admission_core.States as core
use Rattle.floor_laws.specs.admission.TasksOf.{status_of}
use Rattle.floor_laws.specs.rule.nodes.Fitting.{AreRecordsAt, IsDistinct, IsPlaced}
use Rattle.floor_laws.specs.rule.nodes.Trees.{Tree, Unlocked}

-- the record stands at its place, and its task is enabled
pub record IsOfEnabled (nodes : List (List Elem)) (st : State) (r : Record) : Type 0 where
  pub placed : IsPlaced nodes st r
  pub enabled : placed.row.status ≡ status.Enabled

-- The list has one record for each effect of each enabled task, at the effect's place, and no others.
pub record AreOfEnabled (nodes : List (List Elem)) (st : State) (records : List Record) : Type 0 where
  pub once : IsDistinct records
  pub only : (r : Record) → IsAmong r records → IsOfEnabled nodes st r
  pub all : (t : ℕ) (row : TaskRow) (e : Effect) → IsRow st t row → row.status ≡ status.Enabled → Contains row.effects.effects e
      → (n : ℕ) × IsPlaceOf nodes e n × IsAmong (record { task = t; effect = e; node = n }) records

-- the nodes at a start: seat 0 has placed the records, which lie at their nodes
abbrev pub tree_at : List Record → (ℕ → List Record) → Tree
tree_at records contents = record {
  locks = λ n. Unlocked;
  contents = λ n. Some (contents n);
  activities = λ i. None;
  kept = λ i n. None;
  placed = put (λ i. []) 0 records;
  removed = λ i. [];
  fresh = λ i. [];
  clear = λ i. [];
  waits = λ i. [];
}

-- the task of this row, whose turn nobody has, as the core knows it
abbrev pub task_at_rest : List Entry → ℕ → TaskRow → Task
task_at_rest journal t row = record {
  effects = row.effects.effects;
  status = status_of row.status;
  turn = Free;
  unplaced = false;
  made = made_last t journal;
}

-- the tasks of these rows, the first of which is that of task t
abbrev pub tasks_at_rest : List Entry → ℕ → List TaskRow → List Task
tasks_at_rest journal t [] = []
tasks_at_rest journal t (row ∷ rows) = task_at_rest journal t row ∷ tasks_at_rest journal (t + 1) rows

-- the state of the core at a start
abbrev pub core_at : List Entry → State → List Record → core.State
core_at journal st records = record {
  tasks = record { tasks = tasks_at_rest journal 0 st.tasks; links = st.links };
  records = records;
  activities = λ i. None;
}

-- the content of each node has the records that stand there
abbrev pub AreContents : List Record → (ℕ → List Record) → Type 0
AreContents records contents = (n : ℕ) → AreRecordsAt records n (contents n)
