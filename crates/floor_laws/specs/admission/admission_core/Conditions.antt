-- What the core asks of tasks. The tasks of each run of an accepted program meet it.
use Rattle.std.specs.Prelude.{◌≡◌, ◌≢◌, ◌⊎◌, ℕ, IsTrue, List, Some, None, Contains}
use Rattle.effect_sets.specs.declared.effects.Effect.{Effect}
use Rattle.effect_sets.specs.Covers.{effect_covers}
use Rattle.effect_sets.specs.Filled.{all_filled}
use Rattle.wait_graph.specs.Link.{link_of}
use Rattle.wait_graph.specs.Waiting.{SpawnedBy, WaitsFor, WaitsForNobody, YieldsTo}
use Rattle.floor_laws.specs.admission.admission_core.Tasks.{Task, Tasks, Made, Enabled, Faulted, IsTask, TaskHasStatus, TasksInterfere}

-- of each two enabled tasks that interfere, one yields to the other
abbrev pub TasksIsolated : Tasks → Type 0
TasksIsolated ts =
    (s t : ℕ) → s ≢ t → TaskHasStatus ts s Enabled → TaskHasStatus ts t Enabled → TasksInterfere ts s t
    → YieldsTo ts.links s t ⊎ YieldsTo ts.links t s

-- one of the effects covers this one
abbrev pub SomeCovers : List Effect → Effect → Type 0
SomeCovers effects e = (d : Effect) × Contains effects d × IsTrue (effect_covers d e)

-- task t is enabled or has met a fault
abbrev pub HasRunBefore : Tasks → ℕ → Type 0
HasRunBefore ts t = TaskHasStatus ts t Enabled ⊎ TaskHasStatus ts t Faulted

-- The conditions that the core asks of the tasks: enabled tasks are isolated, children stay inside their parents and apart
-- from their siblings, and links fit the tasks' statuses.
pub record MeetsConditions (ts : Tasks) : Type 0 where
  pub isolated : TasksIsolated ts
  -- no effect has a variable
  pub filled : (t : ℕ) (task : Task) → IsTask ts t task → IsTrue (all_filled task.effects)
  -- the effects of an unjoined child lie inside those of its parent
  pub inside : (c p : ℕ) (child parent : Task) → IsTask ts c child → IsTask ts p parent → SpawnedBy ts.links c p
      → (e : Effect) → Contains child.effects e → SomeCovers parent.effects e
  -- the effects of two different unjoined children of one task don't interfere
  pub apart : (c d p : ℕ) → c ≢ d → SpawnedBy ts.links c p → SpawnedBy ts.links d p → ¬ TasksInterfere ts c d
  -- who waits, or has an unjoined child, is enabled or has met a fault
  pub waiter : (s u : ℕ) → WaitsFor ts.links s u → HasRunBefore ts s
  pub parent : (c p : ℕ) → SpawnedBy ts.links c p → HasRunBefore ts p
  -- a task that is still to be admitted has no parent
  pub alone : (t : ℕ) → TaskHasStatus ts t Made → (link_of ts.links t).parent ≡ None
  -- a task whose last entry made a child waits for nobody
  pub maker : (t c : ℕ) (task : Task) → IsTask ts t task → task.made ≡ Some c → WaitsForNobody ts.links t
