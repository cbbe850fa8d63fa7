-- Calls on all effects of a task, one errand for each: to admit the task, to place its records when it is made, and to take them
-- out. What a seat has to know before such a call, and what holds after it.
--
-- For example task 7 has two effects, number 0 with its place at node 3 and number 1 with its place at node 5, and a worker took its
-- turn:
--
-- * It may try to admit the task (`MayTryToAdmit`). No record of task 7 stands (`HasPlacedNone`).
-- * After the first errand the record of effect 0 stands at node 3 (`HasPlacedFirst`, for k = 1).
-- * On the second errand a record of task 2 is in the way. The call has stopped: one record was placed, and the bar is of task 2
--   (`HasStopped`).
-- * The record at node 3 is taken out again (`HasTakenOutFirst`, for k = 1), and no record of task 7 stands.
-- * Without the bar the record of effect 1 would stand at node 5 too (`HasPlacedFirst`, for k = 2), and so each effect would have
--   its record (`HasPlacedEach`).
--
-- All along, nothing is lost that the seat knew of other tasks (`KeepsAllElse`).
use Rattle.std.specs.Prelude.{◌≡◌, ◌≢◌, ◌⊎◌, ◌↔◌, ◌<◌, ℕ, true, false, List, None, Some, Contains, is_some, length, slice_get}
use Rattle.region_paths.specs.declared.elements.Elem.{Elem}
use Rattle.effect_sets.specs.declared.effects.Effect.{Effect}
use Rattle.machine_state.specs.declared.state.TaskStatus.TheVariants as status
use Rattle.floor_laws.specs.declared.rule.view.DoneFact.{DoneFact}
use Rattle.floor_laws.specs.declared.rule.view.HeldTurn.{HeldTurn}
use Rattle.twe_base.specs.Limits.{Bounds}
use Rattle.twe_program.specs.Program.{Program}
use Rattle.floor_laws.specs.table.Added.{HasGrown}
use Rattle.floor_laws.specs.table.FloorOf.{turn_in}
use Rattle.floor_laws.specs.admission.admission_core.States.{IsAmong, IsPlaceOf, Record}
use Rattle.floor_laws.specs.rule.nodes.Trees.{WaitFact}
use Rattle.floor_laws.specs.declared.table.nodes.slot.ErrandKind.{ErrandKind}
use Rattle.floor_laws.specs.declared.table.nodes.slot.ErrandKind.TheVariants.{Admission}
use Rattle.floor_laws.specs.declared.table.nodes.view.TreeView.{TreeView}
use Rattle.floor_laws.specs.table.nodes.Seats.{TreeSeat}
use Rattle.tree_admit.specs.declared.bars.Bar.{Bar}
use Rattle.tree_admit.specs.declared.placing.Obstacle.{Obstacle}
use Rattle.tree_admit.specs.declared.placing.Obstacle.TheVariants.{InTheWay, NoMemory}
use Rattle.tree_admit.specs.declared.placing.Stopped.{Stopped}
use Rattle.tree_admit.specs.Bars.{WasBarred}
use Rattle.tree_admit.specs.Errands.{MaySetOutFor}
use Rattle.tree_admit.specs.Going.{HasLeft, IsOutside}
use Rattle.tree_admit.specs.Descents.{IsOfChild}
use Rattle.tree_admit.specs.Outcomes.{HasPlaced}

-- What a seat has to know before a call.

-- the seat has this turn of task t, which has these effects
pub record HasTurnWith (v : TreeView) (t : ℕ) (effects : List Effect) (turn : HeldTurn) : Type 0 where
  pub has : turn_in v.floor.turns t ≡ Some turn
  pub its : turn.row.effects.effects ≡ effects

-- no record of task t stands that the seat has placed
abbrev pub HasPlacedNone : TreeView → ℕ → Type 0
HasPlacedNone v t = (r : Record) → IsAmong r v.fresh → r.task ≢ t

-- to admit task t: the seat took its turn, it is still to be admitted, and no record of it stands
pub record MayTryToAdmit (v : TreeView) (t : ℕ) (effects : List Effect) : Type 0 where
  pub turn : HeldTurn
  pub has : HasTurnWith v t effects turn
  pub taken : turn.first ≡ false
  pub made : turn.row.status ≡ status.Made
  pub none : HasPlacedNone v t

-- to place the records of task t when it is made: the seat has its first turn, and it was spawned
pub record MayPlaceSpawned (v : TreeView) (t : ℕ) (effects : List Effect) : Type 0 where
  pub turn : HeldTurn
  pub has : HasTurnWith v t effects turn
  pub first : turn.first ≡ true
  pub spawned : is_some turn.row.parent ≡ true

-- to take the records of task t out: the seat took its turn, and it is enabled no more
pub record MayRelease (v : TreeView) (t : ℕ) (effects : List Effect) : Type 0 where
  pub turn : HeldTurn
  pub has : HasTurnWith v t effects turn
  pub taken : turn.first ≡ false
  pub inactive : turn.row.status ≢ status.Enabled

-- to place a record for each effect of task t, by errands of this kind: an admission comes to this, and so does a spawned child
pub record MayPlaceAll (v : TreeView) (kind : ErrandKind) (t : ℕ) (effects : List Effect) : Type 0 where
  pub turn : HeldTurn
  pub has : HasTurnWith v t effects turn
  pub may : MaySetOutFor kind turn
  pub child : IsOfChild kind turn

-- What every call keeps.

-- All that such a call leaves as it was, if it is about task t. The seat stands outside the tree and has the slots that it had. Of
-- the floor it knows what it knew, and perhaps of more tasks that they are done. It knows the waits, the contents and the looks
-- that it knew, and of records of tasks other than t what it knew.
pub record KeepsAllElse (t : ℕ) (before after : TreeSeat) : Type 0 where
  pub outside : IsOutside after.0
  pub slots : after.1 ≡ before.1
  pub floor : after.0.floor ≡ record before.0.floor { done = after.0.floor.done }
  pub done : (fact : DoneFact) → IsAmong fact before.0.floor.done → IsAmong fact after.0.floor.done
  pub waits : (fact : WaitFact) → IsAmong fact before.0.waits → IsAmong fact after.0.waits
  pub kept : HasGrown before.0.kept after.0.kept
  pub looks : HasGrown before.0.looks after.0.looks
  pub fresh : (r : Record) → r.task ≢ t → (IsAmong r after.0.fresh ↔ IsAmong r before.0.fresh)
  pub clear : (r : Record) → r.task ≢ t → (IsAmong r after.0.clear ↔ IsAmong r before.0.clear)

-- How far a call has come: k counts the effects that it is done with, from the first one on.

-- r is the record of effect number k of task t, which has these effects: it is at that effect's place
pub record IsRecordOf (nodes : List (List Elem)) (t : ℕ) (effects : List Effect) (k : ℕ) (r : Record) : Type 0 where
  pub task : r.task ≡ t
  pub effect : slice_get effects k ≡ Some r.effect
  pub place : IsPlaceOf nodes r.effect r.node

-- r is the record of one of the first k effects
abbrev pub IsOneOfFirst : List (List Elem) → ℕ → List Effect → ℕ → Record → Type 0
IsOneOfFirst nodes t effects k r = (j : ℕ) × (j < k) × IsRecordOf nodes t effects j r

-- Each of the first k effects of task t has a record that the seat has placed, and since the first view it has placed no others.
pub record HasPlacedFirst (nodes : List (List Elem)) (t : ℕ) (effects : List Effect) (k : ℕ)
    (before after : TreeSeat) : Type 0 where
  pub keeps : KeepsAllElse t before after
  pub each : (j : ℕ) (e : Effect) → j < k → slice_get effects j ≡ Some e
      → (n : ℕ) × IsPlaceOf nodes e n × IsAmong (record { task = t; effect = e; node = n }) after.0.fresh
  pub only : (r : Record) → IsAmong r after.0.fresh → IsAmong r before.0.fresh ⊎ IsOneOfFirst nodes t effects k r

-- The seat knows that no record of one of the first k effects of task t stands, and has placed none since the first view.
pub record HasTakenOutFirst (nodes : List (List Elem)) (t : ℕ) (effects : List Effect) (k : ℕ)
    (before after : TreeSeat) : Type 0 where
  pub keeps : KeepsAllElse t before after
  pub each : (r : Record) → IsOneOfFirst nodes t effects k r → IsAmong r after.0.clear
  pub gone : (r : Record) → IsOneOfFirst nodes t effects k r → ¬ IsAmong r after.0.fresh
  pub only : (r : Record) → IsAmong r after.0.fresh → IsAmong r before.0.fresh

-- each effect of task t has a record at its place that the seat has placed: the first k of them are all
abbrev pub HasPlacedEach : List (List Elem) → TreeView → ℕ → List Effect → Type 0
HasPlacedEach nodes v t effects =
    (e : Effect) → Contains effects e
    → (n : ℕ) × IsPlaceOf nodes e n × IsAmong (record { task = t; effect = e; node = n }) v.fresh

-- the record of effect number k of task t stands now
abbrev pub RecordStands : List (List Elem) → ℕ → List Effect → ℕ → TreeSeat → TreeSeat → Type 0
RecordStands nodes t effects k before after = (r : Record) × IsRecordOf nodes t effects k r × HasPlaced before r after

-- What stops a call that places records.

-- a record of another task, which the bar names, was in the way of one of the effects, since the seat had the first view
abbrev pub WasBarredFor : Program → Bounds → TreeView → TreeView → ℕ → List Effect → Bar → Type 0
WasBarredFor p lim since v t effects bar = (e : Effect) × Contains effects e × WasBarred p lim since v t e bar

-- the obstacle that stopped a call was this bar, which only an admission can meet, or else memory ran out
abbrev pub IsObstacle : Program → Bounds → ErrandKind → TreeView → TreeView → ℕ → List Effect → Obstacle → Type 0
IsObstacle p lim kind since v t effects (InTheWay bar) = (kind ≡ Admission) × WasBarredFor p lim since v t effects bar
IsObstacle p lim kind since v t effects (NoMemory memory) = Unit {0}

-- at one effect the seat met this obstacle, came back, and did nothing else
abbrev pub HasMet : Program → Bounds → ErrandKind → ℕ → List Effect → Obstacle → TreeSeat → TreeSeat → Type 0
HasMet p lim kind t effects by before after =
    HasLeft before.0 before.1 None after × IsObstacle p lim kind before.0 after.0 t effects by

-- the call placed the records of so many of the first effects as it says, and then met this obstacle at the next one
pub record HasStopped (nodes : List (List Elem)) (p : Program) (lim : Bounds) (kind : ErrandKind) (t : ℕ) (effects : List Effect)
    (stopped : Stopped) (before after : TreeSeat) : Type 0 where
  pub within : stopped.placed < length effects
  pub placed : HasPlacedFirst nodes t effects stopped.placed before after
  pub by : IsObstacle p lim kind before.0 after.0 t effects stopped.by
