-- What every event keeps: the record that the rule follows from.
use Rattle.std.proofs.Common.{◌≡◌, ℕ, List, [], ◌∷◌, Some, ◌⊎◌}
use Rattle.std.specs.Prelude.{Contains}
use Rattle.region_paths.specs.declared.elements.Elem.{Elem}
use Rattle.prefix_tree.specs.Nodes.{IsParent}
use Rattle.floor_laws.specs.admission.admission_core.Tasks.{Task, Tasks, IsTask}
use Rattle.floor_laws.specs.admission.admission_core.Conditions.{MeetsConditions}
use Rattle.floor_laws.specs.admission.admission_core.States.{IsAmong, IsAbove, ActivityIsOver, IsPlaceOf, Record, Purpose, record_effect, Stage, Descends, Steps, Walks, Leaves, held, finished, Activity, State, PassesFor}
use Rattle.floor_laws.specs.admission.admission_core.Events.{MayBegin}
use Rattle.floor_laws.specs.admission.admission_core.Rule.{RecordsYield, EnabledStand, UnplacedAreBorn, FinishedAreFree, LocksAreHeldOnce}

-- the nodes are a path from the place down, the last first
abbrev pub IsStack : List (List Elem) → ℕ → List ℕ → Type 0
IsStack nodes place [] = ⊥
IsStack nodes place (n ∷ []) = n ≡ place
IsStack nodes place (c ∷ n ∷ rest) = IsParent nodes n c × IsStack nodes place (n ∷ rest)

-- the nodes held lie on the way from the root to the place, or on a path from the place down
abbrev pub IsOnWay : List (List Elem) → ℕ → Stage → Type 0
IsOnWay nodes place (Descends n) = ActivityIsOver nodes n place
IsOnWay nodes place (Steps n c) = IsParent nodes n c × IsAbove nodes c place
IsOnWay nodes place (Walks stack done) = IsStack nodes place stack
IsOnWay nodes place (Leaves ns) = Unit {0}

-- an activity that still goes on, at this stage, has been past node x
abbrev pub IsPast : List (List Elem) → Stage → ℕ → Type 0
IsPast nodes (Descends n) x = ActivityIsOver nodes x n
IsPast nodes (Steps n c) x = ActivityIsOver nodes x c
IsPast nodes (Walks [] done) x = ⊥
IsPast nodes (Walks (n ∷ stack) done) x = ActivityIsOver nodes x n ⊎ ((f : ℕ) × IsAmong f done × IsAbove nodes f x)
IsPast nodes (Leaves ns) x = ⊥

abbrev pub IsMine : Tasks → ℕ → Purpose → Stage → Type 0
IsMine ts w purpose (Descends n) = MayBegin ts w purpose
IsMine ts w purpose (Steps n c) = MayBegin ts w purpose
IsMine ts w purpose (Walks stack done) = MayBegin ts w purpose
IsMine ts w purpose (Leaves ns) = Unit {0}

abbrev pub IsSeen : List (List Elem) → Tasks → List Record → Purpose → Stage → Type 0
IsSeen nodes ts records purpose stage = (r : Record) → IsAmong r records → IsPast nodes stage r.node → PassesFor ts purpose r

-- the parent of each finished node is held by this walk, or lies at or below a finished one
abbrev pub IsRimmed : List (List Elem) → Stage → Type 0
IsRimmed nodes stage =
    (f : ℕ) → IsAmong f (finished stage)
    → (m : ℕ) × IsParent nodes m f × (IsAmong m (held stage) ⊎ ((g : ℕ) × IsAmong g (finished stage) × IsAbove nodes g m))

-- what holds of the activity of worker w
pub record Going (nodes : List (List Elem)) (ts : Tasks) (records : List Record) (w : ℕ) (a : Activity) : Type 0 where
  pub place : IsPlaceOf nodes (record_effect a.purpose) a.place
  pub way : IsOnWay nodes a.place a.stage
  pub mine : IsMine ts w a.purpose a.stage
  pub seen : IsSeen nodes ts records a.purpose a.stage
  pub rim : IsRimmed nodes a.stage

-- a record is of one of its task's effects, and stands at that effect's place
pub record IsHome (nodes : List (List Elem)) (ts : Tasks) (r : Record) : Type 0 where
  pub task : (task : Task) × IsTask ts r.task task × Contains task.effects r.effect
  pub place : IsPlaceOf nodes r.effect r.node

pub record Kept (nodes : List (List Elem)) (s : State) : Type 0 where
  pub given : MeetsConditions s.tasks
  pub home : (r : Record) → IsAmong r s.records → IsHome nodes s.tasks r
  pub pairs : RecordsYield s
  pub full : EnabledStand nodes s
  pub born : UnplacedAreBorn s.tasks
  pub owner : LocksAreHeldOnce s
  pub going : (w : ℕ) (a : Activity) → s.activities w ≡ Some a → Going nodes s.tasks s.records w a
  pub shut : FinishedAreFree nodes s
