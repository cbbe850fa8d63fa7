-- What the core of admission knows of tasks: their links, and beside them for each task its effects, its status, who has
-- its turn, whether it is still to be placed, and which child its last entry made.
use Rattle.std.specs.Prelude.{◌≡◌, ℕ, Bool, List, Option, Some, slice_get}
use Rattle.effect_sets.specs.declared.effects.Effect.{Effect}
use Rattle.effect_sets.specs.Interference.{SomeInterfere}
use Rattle.wait_graph.specs.declared.tasks.Link.{Link}

-- a task waits for its admission, is enabled, is done, or has met a fault
pub data Status : Type 0 where
  Made : Status
  Enabled : Status
  Done : Status
  Faulted : Status

-- who has the turn of a task: nobody, a worker that took it, or the worker that made the task and hasn't given its first
-- turn yet
pub data Turn : Type 0 where
  Free : Turn
  Taken : (worker : ℕ) → Turn
  New : (worker : ℕ) → Turn

-- one task, as the core of admission knows it
pub record Task : Type 0 where
  pub effects : List Effect
  pub status : Status
  pub turn : Turn
  -- the task was spawned, and its records are still to be placed
  pub unplaced : Bool
  -- the child that its last entry made, if that entry made one
  pub made : Option ℕ

-- all tasks, by their numbers, with their links
pub record Tasks : Type 0 where
  pub tasks : List Task
  pub links : List Link

-- this is task t
abbrev pub IsTask : Tasks → ℕ → Task → Type 0
IsTask ts t task = slice_get ts.tasks t ≡ Some task

-- task t was made, and has this status
abbrev pub TaskHasStatus : Tasks → ℕ → Status → Type 0
TaskHasStatus ts t status = (task : Task) × IsTask ts t task × (task.status ≡ status)

-- neither done nor faulted
abbrev pub IsLiveStatus : Status → Type 0
IsLiveStatus Made = Unit {0}
IsLiveStatus Enabled = Unit {0}
IsLiveStatus Done = ⊥
IsLiveStatus Faulted = ⊥

-- task t was made, and is neither done nor has it met a fault
abbrev pub IsLive : Tasks → ℕ → Type 0
IsLive ts t = (task : Task) × IsTask ts t task × IsLiveStatus task.status

-- some effects of the two tasks interfere
abbrev pub TasksInterfere : Tasks → ℕ → ℕ → Type 0
TasksInterfere ts s t = (a : Task) × (b : Task) × IsTask ts s a × IsTask ts t b × SomeInterfere a.effects b.effects
