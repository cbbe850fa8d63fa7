-- What seats learn of nodes and of waits, and what it is worth.
use Rattle.std.specs.Prelude.{◌≡◌, ◌≢◌, ◌⊎◌, ℕ, true, false, List, ◌∷◌, Some, Contains}
use Rattle.region_paths.specs.declared.elements.Elem.{Elem}
use Rattle.effect_sets.specs.declared.effects.Effect.{Effect}
use Rattle.effect_sets.specs.Interference.{Interferes}
use Rattle.wait_graph.specs.Waiting.{WaitsForNobody, WaitsOn}
use Rattle.machine_state.specs.declared.state.State.{State}
use Rattle.machine_state.specs.declared.state.TaskStatus.TheVariants as status
use Rattle.floor_laws.specs.declared.rule.view.HeldTurn.{HeldTurn}
use Rattle.floor_laws.specs.rule.Floors.{put}
use Rattle.floor_laws.specs.rule.Fitting.{Turns}
use Rattle.floor_laws.specs.admission.admission_core.States.{Record, IsAmong, IsPlaceOf}
use Rattle.floor_laws.specs.rule.nodes.Fitting.{HasTurn}
use Rattle.floor_laws.specs.rule.nodes.Trees.{Tree, WaitFact}

-- Records that do not stand.

-- seat i, which has the turn of the record's task, has not found the record in the content of its node
pub record FindsClear (turns : Turns) (tree : Tree) (i : ℕ) (r : Record) : Type 0 where
  pub turn : HasTurn turns i r.task
  pub content : List Record
  pub has : tree.kept i r.node ≡ Some content
  pub none : ¬ IsAmong r content

-- seat i knows that the record does not stand
abbrev pub after_finding_clear : Tree → ℕ → Record → Tree
after_finding_clear tree i r = record tree { clear = put tree.clear i (r ∷ tree.clear i) }

-- The task of this turn is new or still to be admitted, so its records are to be placed by the seat that has the turn.
abbrev pub IsToPlace : HeldTurn → Type 0
IsToPlace turn = (turn.first ≡ true) ⊎ (turn.row.status ≡ status.Made)

-- Waits.

-- by these waits s waits for u, directly or through others, unless u is done; or the two are one
abbrev pub IsKnownToWait : List WaitFact → ℕ → ℕ → Type 0
IsKnownToWait waits s u = (s ≡ u) ⊎ IsAmong (record { waiter = s; awaited = u }) waits

-- seat i knows that s waits for v
abbrev pub after_following : Tree → ℕ → ℕ → ℕ → Tree
after_following tree i s v = record tree { waits = put tree.waits i (record { waiter = s; awaited = v } ∷ tree.waits i) }

-- Admission.

-- Seat i took the turn of task t, which is still to be admitted, and has placed a record of it for each of its effects.
pub record HasPlacedAll (nodes : List (List Elem)) (turns : Turns) (tree : Tree) (i t : ℕ) : Type 0 where
  pub turn : HeldTurn
  pub has : turns i t ≡ Some turn
  pub taken : turn.first ≡ false
  pub made : turn.row.status ≡ status.Made
  pub all : (e : Effect) → Contains turn.row.effects.effects e
      → (n : ℕ) × IsPlaceOf nodes e n × IsAmong (record { task = t; effect = e; node = n }) (tree.fresh i)

-- no seat has a turn but one of task t
abbrev pub HasOnly : Turns → ℕ → Type 0
HasOnly turns t = (i u : ℕ) → HasTurn turns i u → u ≡ t

-- Record r stands in the way of task t, whose turn seat i has: it is of another task and interferes with an effect of t, and
-- the waits of its task end at a task that waits for nobody and is not t.
pub record IsInTheWay (st : State) (turns : Turns) (standing : List Record) (i t : ℕ) (r : Record) : Type 0 where
  pub stands : IsAmong r standing
  pub other : r.task ≢ t
  pub turn : HeldTurn
  pub has : turns i t ≡ Some turn
  pub effect : Effect
  pub among : Contains turn.row.effects.effects effect
  pub meets : Interferes r.effect effect
  pub end : ℕ
  pub chain : WaitsOn st.links r.task end
  pub free : WaitsForNobody st.links end
  pub away : end ≢ t
