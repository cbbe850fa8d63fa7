-- Groups of tasks that write one concrete path, so that any two of them interfere.
use Rattle.std.specs.Prelude.{◌≡◌, ◌≢◌, ℕ, List, Option, Some, slice_get, Any, IsTrue}
use Rattle.region_paths.specs.Concrete.{ConcretePath, InSet}
use Rattle.region_paths.specs.Filled.{filled}
use Rattle.effect_sets.specs.declared.effects.Effect.{Effect}
use Rattle.machine_state.specs.declared.state.State.{State}
use Rattle.machine_state.specs.declared.state.TaskRow.{TaskRow}
use Rattle.machine_state.specs.Rows.{IsRow}
use Rattle.flat_sched.specs.declared.groups.Group.{Group}
use Rattle.flat_sched.specs.inner.Lists.{IsReady}

-- the effect writes the concrete path
abbrev pub WritesPath : ConcretePath → Effect → Type 0
WritesPath c e = IsTrue e.write × InSet e.path c

-- an effect of the task writes the concrete path
abbrev pub MayWriteAt : State → ℕ → ConcretePath → Type 0
MayWriteAt st t c = (row : TaskRow) × IsRow st t row × Any (WritesPath c) row.effects.effects

-- the effect has no variable, and writes the concrete path
abbrev pub IsKey : ConcretePath → Effect → Type 0
IsKey c key = IsTrue (filled key.path) × WritesPath c key

-- the key of the group and each of its tasks write one concrete path
pub record AreAlike (st : State) (g : Group) : Type 0 where
  pub path : ConcretePath
  pub key : IsKey path g.key
  pub members : (t : ℕ) → IsReady g.members t → MayWriteAt st t path

-- this is the group of u
abbrev pub HasGroup : List (Option Group) → ℕ → Group → Type 0
HasGroup groups u g = slice_get groups u ≡ Some (Some g)

-- t is in the group of u
abbrev pub IsMember : List (Option Group) → ℕ → ℕ → Type 0
IsMember groups u t = (g : Group) × HasGroup groups u g × IsReady g.members t

-- the tasks of each group are alike
abbrev pub AreGroups : State → List (Option Group) → Type 0
AreGroups st groups = (u : ℕ) (g : Group) → HasGroup groups u g → AreAlike st g

-- there is no group of u
abbrev pub HasNone : List (Option Group) → ℕ → Type 0
HasNone groups u = (g : Group) → ¬ HasGroup groups u g

-- if there is a group of u, it is this one
abbrev pub HasOnly : List (Option Group) → ℕ → Group → Type 0
HasOnly groups u g = (h : Group) → HasGroup groups u h → h ≡ g

-- each of the groups is still there
abbrev pub AreKept : List (Option Group) → List (Option Group) → Type 0
AreKept groups after = (u : ℕ) (g : Group) → HasGroup groups u g → HasGroup after u g

-- each of the groups is still there, but perhaps that of the task `at`
abbrev pub OthersAreKept : ℕ → List (Option Group) → List (Option Group) → Type 0
OthersAreKept at groups after = (u : ℕ) (g : Group) → u ≢ at → HasGroup groups u g → HasGroup after u g

-- no task is in the group yet
abbrev pub IsNew : Group → Type 0
IsNew g = (st : State) → AreAlike st g
