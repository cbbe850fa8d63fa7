-- The states that events lead to, and the rule that they keep.
use Rattle.std.specs.Prelude.{◌≡◌, ◌≢◌, ◌⊎◌, ℕ, true, false, List, [], ◌∷◌, Some, None, Contains}
use Rattle.region_paths.specs.declared.elements.Elem.{Elem}
use Rattle.effect_sets.specs.declared.effects.Effect.{Effect}
use Rattle.effect_sets.specs.Interference.{Interferes}
use Rattle.wait_graph.specs.Waiting.{SpawnedBy, YieldsTo}
use Rattle.floor_laws.specs.admission.admission_core.Tasks.{Task, Tasks, Made, Enabled, Taken, New, IsTask, TaskHasStatus, IsLive, TasksInterfere}
use Rattle.floor_laws.specs.admission.admission_core.Conditions.{MeetsConditions}
use Rattle.floor_laws.specs.admission.admission_core.States.{IsAmong, IsAbove, ActivityIsOver, IsApartBelow, IsPlaceOf, Record, record_effect, Admit, Stage, Descends, Steps, Walks, finished, Activity, State, HoldsNode, RecordPasses}
use Rattle.floor_laws.specs.admission.admission_core.Events.{TreeEvent}
use Rattle.floor_laws.specs.admission.admission_core.Entries.{AllStand, TaskEvent}

-- a quiet state: no worker is in the tree, no child is still to be placed, and the records are those of the enabled tasks
pub record CoreIsQuiet (nodes : List (List Elem)) (s : State) : Type 0 where
  pub conditions : MeetsConditions s.tasks
  pub activities : (w : ℕ) → s.activities w ≡ None
  pub placed : (t : ℕ) (task : Task) → IsTask s.tasks t task → task.unplaced ≡ false
  pub stand : (t : ℕ) (task : Task) → IsTask s.tasks t task → task.status ≡ Enabled → AllStand nodes s.records t task
  pub only : (r : Record) → IsAmong r s.records
      → IsPlaceOf nodes r.effect r.node
      × ((task : Task) × IsTask s.tasks r.task task × (task.status ≡ Enabled) × Contains task.effects r.effect)

-- the start of a run: the only task is to be admitted, no record stands, and no worker is in the tree
pub record IsStart (s : State) : Type 0 where
  pub task : (first : Task) × (s.tasks.tasks ≡ first ∷ []) × (first.status ≡ Made) × (first.unplaced ≡ false)
  pub conditions : MeetsConditions s.tasks
  pub records : s.records ≡ []
  pub activities : (w : ℕ) → s.activities w ≡ None

-- the states that events lead to from a quiet one
pub data CoreIsReached (nodes : List (List Elem)) : State → Type 0 where
  quiet : {s : State} → CoreIsQuiet nodes s → CoreIsReached nodes s
  in_tree : {s next : State} → CoreIsReached nodes s → TreeEvent nodes s next → CoreIsReached nodes next
  by_task : {s next : State} → (after : Tasks) → CoreIsReached nodes s → TaskEvent nodes s after
      → next ≡ record s { tasks = after }
      → CoreIsReached nodes next

-- of two live tasks that have records that interfere, one yields to the other
abbrev pub RecordsYield : State → Type 0
RecordsYield s =
    (q r : Record) → IsAmong q s.records → IsAmong r s.records → IsLive s.tasks q.task → IsLive s.tasks r.task
    → Interferes q.effect r.effect → YieldsTo s.tasks.links q.task r.task ⊎ YieldsTo s.tasks.links r.task q.task

-- an activity of worker w for an effect of task t that is to be admitted
abbrev pub Admitting : State → ℕ → ℕ → Effect → Stage → Type 0
Admitting s w t e stage = (place : ℕ) × (s.activities w ≡ Some (record { purpose = Admit t e; place = place; stage = stage }))

-- the last node of a descent
abbrev pub IsLast : Stage → ℕ → Type 0
IsLast (Descends n) last = last ≡ n
IsLast (Steps n c) last = last ≡ c
IsLast _ last = ⊥

-- for a descent of t, each record strictly above its last node passes
abbrev pub DescentsSawPass : List (List Elem) → State → Type 0
DescentsSawPass nodes s =
    (w t : ℕ) (e : Effect) (stage : Stage) (last : ℕ) (r : Record) → Admitting s w t e stage → IsLast stage last
    → IsAmong r s.records → ActivityIsOver nodes r.node last → RecordPasses s.tasks t e r

-- for a walk of t, each record strictly above the last node of its stack passes (those strictly above its place, and those
-- at nodes of the stack before the last), and so does each record at a finished node or below one, and each at a node that
-- is apart from the effect with all that lies below it
abbrev pub WalksSawPass : List (List Elem) → State → Type 0
WalksSawPass nodes s =
    (w t : ℕ) (e : Effect) (last : ℕ) (stack done : List ℕ) (r : Record) → Admitting s w t e (Walks (last ∷ stack) done)
    → IsAmong r s.records
    → ActivityIsOver nodes r.node last ⊎ (((f : ℕ) × IsAmong f done × IsAbove nodes f r.node) ⊎ IsApartBelow nodes e r.node)
    → RecordPasses s.tasks t e r

-- of the nodes at or below a finished node of a walk no lock is held, except of those that are apart from the walk's effect
-- with all that lies below them
abbrev pub FinishedAreFree : List (List Elem) → State → Type 0
FinishedAreFree nodes s =
    (w v : ℕ) (a : Activity) (f n : ℕ) → s.activities w ≡ Some a → IsAmong f (finished a.stage) → IsAbove nodes f n
    → HoldsNode s.activities v n → IsApartBelow nodes (record_effect a.purpose) n

-- no lock is held by two workers
abbrev pub LocksAreHeldOnce : State → Type 0
LocksAreHeldOnce s = (v w n : ℕ) → HoldsNode s.activities v n → HoldsNode s.activities w n → v ≡ w

-- an enabled task that is placed has a record for each effect
abbrev pub EnabledStand : List (List Elem) → State → Type 0
EnabledStand nodes s =
    (t : ℕ) (task : Task) → IsTask s.tasks t task → task.status ≡ Enabled → task.unplaced ≡ false
    → AllStand nodes s.records t task

-- A task that is still to be placed is an enabled child. Its parent's last entry made it, the worker that has its first
-- turn has the parent's turn, and the parent is enabled and has all of its own records.
pub record IsBorn (ts : Tasks) (c : ℕ) (child : Task) : Type 0 where
  pub enabled : child.status ≡ Enabled
  pub maker : ℕ
  pub parent : Task
  pub spawned : SpawnedBy ts.links c maker
  pub is : IsTask ts maker parent
  pub active : parent.status ≡ Enabled
  pub placed : parent.unplaced ≡ false
  pub made : parent.made ≡ Some c
  pub worker : ℕ
  pub turns : (child.turn ≡ New worker) × (parent.turn ≡ Taken worker)

-- each task that is still to be placed is such a child
abbrev pub UnplacedAreBorn : Tasks → Type 0
UnplacedAreBorn ts = (c : ℕ) (child : Task) → IsTask ts c child → child.unplaced ≡ true → IsBorn ts c child

-- each enabled task but t itself that interferes with t yields to it
abbrev pub OthersYieldTo : Tasks → ℕ → Type 0
OthersYieldTo ts t = (s : ℕ) → s ≢ t → TaskHasStatus ts s Enabled → TasksInterfere ts s t → YieldsTo ts.links s t
