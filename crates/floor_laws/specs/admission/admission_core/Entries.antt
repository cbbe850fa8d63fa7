-- What the entries of the machine and the steps on turns do to the tasks. Nothing else of the state changes.
use Rattle.std.specs.Prelude.{◌≡◌, ◌≢◌, ◌++◌, ℕ, Bool, true, false, List, [], ◌∷◌, length, Option, Some, None, Contains, slice_get, if◌then◌else◌}
use Rattle.region_paths.specs.declared.elements.Elem.{Elem}
use Rattle.effect_sets.specs.declared.effects.Effect.{Effect}
use Rattle.wait_graph.specs.declared.tasks.Link.{Link}
use Rattle.wait_graph.specs.Link.{new_link, with_wait, with_joined, with_done}
use Rattle.wait_graph.specs.Waiting.{SpawnedBy, WaitsForNobody}
use Rattle.floor_laws.specs.admission.admission_core.Tasks.{Status, Made, Enabled, Done, Faulted, Free, Taken, New, Task, Tasks, IsTask, TaskHasStatus}
use Rattle.floor_laws.specs.admission.admission_core.Conditions.{MeetsConditions}
use Rattle.floor_laws.specs.admission.admission_core.States.{IsAmong, IsPlaceOf, Record, Activity, State}

-- task t is this one from now on, and the other tasks stay
pub record Becomes (before after : Tasks) (t : ℕ) (task : Task) : Type 0 where
  pub own : IsTask after t task
  pub others : (s : ℕ) → s ≢ t → slice_get after.tasks s ≡ slice_get before.tasks s

-- a record of the task stands for each of its effects, at the effect's place
abbrev pub AllStand : List (List Elem) → List Record → ℕ → Task → Type 0
AllStand nodes records t task =
    (e : Effect) → Contains task.effects e
    → (n : ℕ) × IsPlaceOf nodes e n × IsAmong (record { task = t; effect = e; node = n }) records

-- no unjoined child of t is still to be placed
abbrev pub ChildrenArePlaced : Tasks → ℕ → Type 0
ChildrenArePlaced ts t = (c : ℕ) (child : Task) → SpawnedBy ts.links c t → IsTask ts c child → child.unplaced ≡ false

-- a free turn is taken
pub record TakesTurn (before after : Tasks) (w t : ℕ) (task : Task) : Type 0 where
  pub is : IsTask before t task
  pub free : task.turn ≡ Free
  pub becomes : Becomes before after t (record task { turn = Taken w })
  pub links : after.links ≡ before.links

-- a worker that does nothing in the tree gives a turn that it took, if no child of the task is still to be placed
pub record GivesTurnEvent (activities : ℕ → Option Activity) (before after : Tasks) (w t : ℕ) (task : Task) : Type 0 where
  pub is : IsTask before t task
  pub taken : task.turn ≡ Taken w
  pub idle : activities w ≡ None
  pub children : ChildrenArePlaced before t
  pub becomes : Becomes before after t (record task { turn = Free })
  pub links : after.links ≡ before.links

-- The first turn of a task is given. If the task was spawned, it is placed from now on: all of its records stand.
pub record GivesFirst (nodes : List (List Elem)) (records : List Record) (before after : Tasks) (w t : ℕ)
    (task : Task) : Type 0 where
  pub is : IsTask before t task
  pub new : task.turn ≡ New w
  pub placed : task.unplaced ≡ true → AllStand nodes records t task
  pub becomes : Becomes before after t (record task { turn = Free; unplaced = false })
  pub links : after.links ≡ before.links

-- a task that is still to be admitted, and all of whose records stand, is enabled by the worker that has its turn and does
-- nothing in the tree
pub record Admits (nodes : List (List Elem)) (s : State) (after : Tasks) (w t : ℕ) (task : Task) : Type 0 where
  pub is : IsTask s.tasks t task
  pub made : task.status ≡ Made
  pub turn : task.turn ≡ Taken w
  pub idle : s.activities w ≡ None
  pub records : AllStand nodes s.records t task
  pub becomes : Becomes s.tasks after t (record task { status = Enabled })
  pub links : after.links ≡ s.tasks.links

-- task t may run: it is enabled and waits for nobody, worker w has taken its turn, and neither it nor an unjoined child of
-- it is still to be placed
pub record MayRunEvent (ts : Tasks) (w t : ℕ) (task : Task) : Type 0 where
  pub is : IsTask ts t task
  pub enabled : task.status ≡ Enabled
  pub turn : task.turn ≡ Taken w
  pub placed : task.unplaced ≡ false
  pub children : ChildrenArePlaced ts t
  pub ready : WaitsForNobody ts.links t

-- a child that a segment joins is done
abbrev pub IsJoined : Tasks → Option ℕ → Type 0
IsJoined ts None = Unit {0}
IsJoined ts (Some c) = TaskHasStatus ts c Done

-- the links after the child was joined, if the segment joins one
abbrev pub links_joined : List Link → Option ℕ → List Link
links_joined links None = links
links_joined links (Some c) = with_joined links c

-- how a segment leaves its task that makes no task: enabled after a wait or a join, done, or with a fault
abbrev pub links_ended : Status → List Link → ℕ → List Link
links_ended Made links t = links
links_ended Enabled links t = links
links_ended Done links t = with_done links t
links_ended Faulted links t = links

-- a segment of t that joins a child or none, and ends in a wait, a join, the end of t or a fault
pub record Runs (before after : Tasks) (w t : ℕ) (task : Task) (joins waits : Option ℕ) (status : Status) : Type 0 where
  pub may : MayRunEvent before w t task
  pub joined : IsJoined before joins
  pub ends : status ≢ Made
  pub last : status ≡ Done → waits ≡ None
  pub becomes : Becomes before after t (record task { status = status; made = None })
  pub links : after.links ≡ links_ended status (with_wait (links_joined before.links joins) t waits) t
  pub conditions : MeetsConditions after

-- a task that was just made: a spawned one is enabled and still to be placed, another one is to be admitted
abbrev pub new_task : ℕ → List Effect → Bool → Task
new_task w effects spawned = record {
  effects = effects;
  status = if spawned then Enabled else Made;
  turn = New w;
  unplaced = spawned;
  made = None;
}

-- the parent of a new task: a spawned one has the task that made it, another one has none
abbrev pub parent_if : Bool → ℕ → Option ℕ
parent_if true t = Some t
parent_if false t = None

-- a segment of t that joins a child or none, and ends by making task c
pub record MakesEvent (before after : Tasks) (w t c : ℕ) (task : Task) (joins waits : Option ℕ) (effects : List Effect)
    (spawned : Bool) : Type 0 where
  pub may : MayRunEvent before w t task
  pub joined : IsJoined before joins
  pub number : c ≡ length before.links
  pub fresh : slice_get before.tasks c ≡ None
  pub maker : IsTask after t (record task { made = Some c })
  pub child : IsTask after c (new_task w effects spawned)
  pub others : (s : ℕ) → s ≢ t → s ≢ c → slice_get after.tasks s ≡ slice_get before.tasks s
  pub links : after.links ≡ with_wait (links_joined before.links joins) t waits ++ new_link (parent_if spawned t) ∷ []
  pub conditions : MeetsConditions after

-- an entry or a step on a turn leads from the tasks of s to these
pub data TaskEvent (nodes : List (List Elem)) (s : State) (after : Tasks) : Type 0 where
  TakeTurn : (w t : ℕ) (task : Task) → TakesTurn s.tasks after w t task → TaskEvent nodes s after
  GiveTurn : (w t : ℕ) (task : Task) → GivesTurnEvent s.activities s.tasks after w t task → TaskEvent nodes s after
  GiveFirst : (w t : ℕ) (task : Task) → GivesFirst nodes s.records s.tasks after w t task → TaskEvent nodes s after
  Enable : (w t : ℕ) (task : Task) → Admits nodes s after w t task → TaskEvent nodes s after
  Run : (w t : ℕ) (task : Task) (joins waits : Option ℕ) (status : Status) → Runs s.tasks after w t task joins waits status
      → TaskEvent nodes s after
  Make : (w t c : ℕ) (task : Task) (joins waits : Option ℕ) (effects : List Effect) (spawned : Bool)
      → MakesEvent s.tasks after w t c task joins waits effects spawned → TaskEvent nodes s after
