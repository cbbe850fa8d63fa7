-- What a seat finds in the nodes that it has locked, if it is the only one.
use Rattle.std.specs.Prelude.{◌≡◌, ℕ, List, None, Some, Contains}
use Rattle.twe_base.specs.Limits.{Bounds}
use Rattle.twe_program.specs.Program.{Program}
use Rattle.machine_state.specs.declared.state.State as machine
use Rattle.machine_state.specs.declared.state.TaskRow.{TaskRow}
use Rattle.machine_state.specs.declared.state.TaskStatus.TheVariants.{Enabled}
use Rattle.machine_state.specs.Rows.{IsRow}
use Rattle.floor_laws.specs.admission.admission_core.States.{IsAmong, Record}
use Rattle.floor_laws.specs.table.Alone.{IsAloneAt, IsLastIfAlone, IsLegalIfAlone, KnowsRowsIfAlone, SaysWaitIfAlone}
use Rattle.floor_laws.specs.table.FloorOf.{turn_in}
use Rattle.floor_laws.specs.declared.table.nodes.view.TreeView.{TreeView}
use Rattle.floor_laws.specs.table.nodes.TreeOf.{content_in}

-- the task of the record is enabled, and the record's effect is one of its effects
pub record IsOfEnabledTask (st : machine.State) (r : Record) : Type 0 where
  pub row : TaskRow
  pub there : IsRow st r.task row
  pub enabled : row.status ≡ Enabled
  pub effect : Contains row.effects.effects r.effect

-- If the seat is the only one, each record in the nodes that it has locked is of an enabled task, unless the seat has the turn of
-- that task.
abbrev pub HasEnabledIfAlone : Program → Bounds → TreeView → Type 0
HasEnabledIfAlone p lim v =
    (st : machine.State) → IsAloneAt p lim v.floor st → (n : ℕ) (content : List Record) (r : Record)
    → content_in v.kept n ≡ Some content → IsAmong r content → turn_in v.floor.turns r.task ≡ None → IsOfEnabledTask st r

-- What the only seat learns when it finds this in the phase word of task u.
pub record LearnsAlone (p : Program) (lim : Bounds) (v : TreeView) (u found : ℕ) : Type 0 where
  pub last : IsLastIfAlone p lim v.floor u found
  pub waits : SaysWaitIfAlone p lim v.floor u found
  pub rows : KnowsRowsIfAlone p lim v.floor
  pub legal : IsLegalIfAlone p lim v.floor
  pub enabled : HasEnabledIfAlone p lim v
