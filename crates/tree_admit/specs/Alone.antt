-- What the only stand finds in the way of an admission.
use Rattle.std.specs.Prelude.{◌≡◌, ◌≢◌, ℕ, List, None, Some}
use Rattle.twe_base.specs.Limits.{Bounds}
use Rattle.twe_program.specs.Program.{Program}
use Rattle.twe_program.specs.WellFormed.{IsWellFormed}
use Rattle.wait_graph.specs.declared.tasks.Link.{Link}
use Rattle.wait_graph.specs.Waiting.{WaitsForNobody, WaitsOn}
use Rattle.machine_state.specs.declared.state.State.{State}
use Rattle.machine_state.specs.declared.state.TaskRow.{TaskRow}
use Rattle.machine_state.specs.Legal.{MayAdmit}
use Rattle.machine_state.specs.Rows.{IsRow}
use Rattle.machine_state.specs.Runs.{IsReached}
use Rattle.floor_laws.specs.declared.rule.view.HeldTurn.{HeldTurn}
use Rattle.floor_laws.specs.rule.Rows.{unmarked}
use Rattle.floor_laws.specs.table.Alone.{IsAloneAt, IsLegalIfAlone, KnowsRowsIfAlone}
use Rattle.floor_laws.specs.table.FloorOf.{turn_in}
use Rattle.floor_laws.specs.declared.table.view.View.{View}
use Rattle.floor_laws.specs.admission.admission_core.States.{Record}
use Rattle.floor_laws.specs.declared.table.nodes.view.TreeView.{TreeView}
use Rattle.floor_laws.specs.table.nodes.Alone.{HasEnabledIfAlone, IsOfEnabledTask}

-- the seat has no turn but one of task t
abbrev pub HasOnlyTurnOf : View → ℕ → Type 0
HasOnlyTurnOf v t = (u : ℕ) → u ≢ t → turn_in v.turns u ≡ None

-- The waits from task s end at a task that is not t.
pub record LeadsElsewhere (links : List Link) (s t : ℕ) : Type 0 where
  pub end : ℕ
  pub chain : WaitsOn links s end
  pub free : WaitsForNobody links end
  pub away : end ≢ t

-- What the only seat knows that has no turn but one of task t, and has followed the waits from task s to a task that is not t.
pub record FollowedAlone (p : Program) (lim : Bounds) (v : TreeView) (s t : ℕ) : Type 0 where
  pub elsewhere : (st : State) → IsAloneAt p lim v.floor st → HasOnlyTurnOf v.floor t → LeadsElsewhere st.links s t
  pub rows : KnowsRowsIfAlone p lim v.floor
  pub legal : IsLegalIfAlone p lim v.floor
  pub enabled : HasEnabledIfAlone p lim v

-- In this state the record stands in the way of task t, of which a seat with this view knows the row if it has its turn: the
-- record is of an enabled task, whose waits do not lead to t. The state is one that a legal journal leads to.
pub record StandsInTheWay (p : Program) (lim : Bounds) (v : View) (st : State) (t : ℕ) (r : Record) : Type 0 where
  pub of_enabled : IsOfEnabledTask st r
  pub leads : LeadsElsewhere st.links r.task t
  pub row : (turn : HeldTurn) (row : TaskRow) → turn_in v.turns t ≡ Some turn → IsRow st t row → unmarked row ≡ turn.row
  pub legal : IsWellFormed p × IsReached p lim st

-- If the seat is the only one and has no turn but one of task t, the record stands in the way of t.
abbrev pub IsInTheWayIfAlone : Program → Bounds → View → ℕ → Record → Type 0
IsInTheWayIfAlone p lim v t r = (st : State) → IsAloneAt p lim v st → HasOnlyTurnOf v t → StandsInTheWay p lim v st t r

-- If the seat is the only one and has no turn but one of task t, it is not legal to admit t.
abbrev pub MayNotAdmitIfAlone : Program → Bounds → View → ℕ → Type 0
MayNotAdmitIfAlone p lim v t = (st : State) → IsAloneAt p lim v st → HasOnlyTurnOf v t → ¬ MayAdmit st t
