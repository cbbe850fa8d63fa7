-- The states of the core: the tasks, the records that stand at nodes, and what each worker is doing in the tree.
--
-- A node is named by its number in the tree's list of paths. A node's lock is held by the worker whose activity holds it.
use Rattle.std.specs.Prelude.{◌≡◌, ◌≢◌, ◌⊎◌, ◌<◌, ◌==◌, ℕ, List, [], ◌∷◌, length, Option, Some, if◌then◌else◌}
use Rattle.region_paths.specs.declared.elements.Elem.{Elem}
use Rattle.effect_sets.specs.declared.effects.Effect.{Effect}
use Rattle.effect_sets.specs.Interference.{Interferes}
use Rattle.prefix_tree.specs.Prefix.{IsPrefix}
use Rattle.prefix_tree.specs.Nodes.{path_of}
use Rattle.effect_tree.specs.Place.{IsPlace}
use Rattle.wait_graph.specs.Waiting.{YieldsTo}
use Rattle.floor_laws.specs.admission.admission_core.Tasks.{Tasks, IsLive}

-- x is in the list
abbrev pub IsAmong : {X : Type 0} → X → List X → Type 0
IsAmong x [] = ⊥
IsAmong x (y ∷ ys) = (x ≡ y) ⊎ IsAmong x ys

-- node m is node n, or lies above it
pub record IsAbove (nodes : List (List Elem)) (m n : ℕ) : Type 0 where
  pub upper : m < length nodes
  pub lower : n < length nodes
  pub prefix : IsPrefix (path_of nodes m) (path_of nodes n)

-- node m lies above node n, and is another node
pub record ActivityIsOver (nodes : List (List Elem)) (m n : ℕ) : Type 0 where
  pub above : IsAbove nodes m n
  pub other : m ≢ n

-- node n is the place of the effect
pub record IsPlaceOf (nodes : List (List Elem)) (e : Effect) (n : ℕ) : Type 0 where
  pub there : n < length nodes
  pub place : IsPlace nodes e.path (path_of nodes n)

-- What has its place at node n or below it does not interfere with the effect, whatever it is.
abbrev pub IsApartBelow : List (List Elem) → Effect → ℕ → Type 0
IsApartBelow nodes e n = (d : Effect) (m : ℕ) → IsPlaceOf nodes d m → IsAbove nodes n m → ¬ Interferes d e

-- an effect of a task, which stands at a node
pub record Record : Type 0 where
  pub task : ℕ
  pub effect : Effect
  pub node : ℕ

-- what a worker goes down the tree for: to place a record of a task that is still to be admitted, testing what it meets
-- on the way; to place a record of a spawned child; or to take a record out
pub data Purpose : Type 0 where
  Admit : (task : ℕ) (effect : Effect) → Purpose
  Child : (task : ℕ) (effect : Effect) → Purpose
  Remove : (task : ℕ) (effect : Effect) → Purpose

-- the effect whose record is to be placed or taken out
abbrev pub record_effect : Purpose → Effect
record_effect (Admit t e) = e
record_effect (Child t e) = e
record_effect (Remove t e) = e

-- where an activity is
pub data Stage : Type 0 where
  -- above its place: it holds one node
  Descends : (node : ℕ) → Stage
  -- above its place: it holds a node and its child
  Steps : (node child : ℕ) → Stage
  -- at its place or below it: it holds the nodes of a path from the place down, the last first, and has been through the
  -- finished nodes
  Walks : (stack done : List ℕ) → Stage
  -- it has acted or was barred: it gives the nodes that it holds, the first of the list first
  Leaves : (nodes : List ℕ) → Stage

-- the nodes that are held, the last one first
abbrev pub held : Stage → List ℕ
held (Descends n) = n ∷ []
held (Steps n c) = c ∷ n ∷ []
held (Walks stack done) = stack
held (Leaves nodes) = nodes

-- the nodes that a walk has been through; at the other stages there are none
abbrev pub finished : Stage → List ℕ
finished (Descends n) = []
finished (Steps n c) = []
finished (Walks stack done) = done
finished (Leaves nodes) = []

-- what a worker is doing in the tree: what for, and how far it has come
pub record Activity : Type 0 where
  pub purpose : Purpose
  -- the place of its effect
  pub place : ℕ
  pub stage : Stage

-- the state: the activity of each worker, if it has one, stands under the worker's number
pub record State : Type 0 where
  pub tasks : Tasks
  pub records : List Record
  pub activities : ℕ → Option Activity

-- worker w holds the lock of node n
abbrev pub HoldsNode : (ℕ → Option Activity) → ℕ → ℕ → Type 0
HoldsNode activities w n = (a : Activity) × (activities w ≡ Some a) × IsAmong n (held a.stage)

-- the lock of node n is free
abbrev pub NodeIsFree : State → ℕ → Type 0
NodeIsFree s n = (w : ℕ) → ¬ HoldsNode s.activities w n

-- The record passes for effect e of task t: its effect doesn't interfere with e, its task isn't live, or its task yields
-- to t. (Each task yields to itself.)
abbrev pub RecordPasses : Tasks → ℕ → Effect → Record → Type 0
RecordPasses ts t e r = IsLive ts r.task → Interferes r.effect e → YieldsTo ts.links r.task t

-- the record passes for an activity: one that places no record of a task to be admitted tests nothing
abbrev pub PassesFor : Tasks → Purpose → Record → Type 0
PassesFor ts (Admit t e) r = RecordPasses ts t e r
PassesFor ts (Child t e) r = Unit {0}
PassesFor ts (Remove t e) r = Unit {0}

-- each record at node n passes for the activity
abbrev pub AllPassAt : State → Purpose → ℕ → Type 0
AllPassAt s purpose n = (r : Record) → IsAmong r s.records → r.node ≡ n → PassesFor s.tasks purpose r

-- the activity of worker w is this one from now on, or it has none; all else stays
abbrev pub put_activity : (ℕ → Option Activity) → ℕ → Option Activity → ℕ → Option Activity
put_activity activities w activity v = if v == w then activity else activities v

-- the state in which the activity of worker w is this one, or in which it has none; all else stays
abbrev pub with_activity : State → ℕ → Option Activity → State
with_activity s w activity = record s { activities = put_activity s.activities w activity }

-- the activity of worker w has come to this stage; all else stays
abbrev pub with_stage : State → ℕ → Activity → Stage → State
with_stage s w a stage = with_activity s w (Some (record a { stage = stage }))
