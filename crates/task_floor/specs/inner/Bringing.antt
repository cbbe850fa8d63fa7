-- Between an entry that makes a task and the turn of that task.
use Rattle.std.specs.Prelude.{◌≡◌, ◌≢◌, ◌<◌, ℕ, Option, None, Some, option_map}
use Rattle.std.specs.Option.{ForSome}
use Rattle.twe_base.specs.Limits.{Bounds}
use Rattle.machine_state.specs.declared.state.TaskRow.{TaskRow}
use Rattle.floor_laws.specs.declared.rule.view.TaskSlot.{TaskSlot}
use Rattle.floor_laws.specs.rule.Rows.{slot_of}
use Rattle.task_floor.specs.steps.inner.Bringing.{IsNew}
use Rattle.floor_laws.specs.admission.admission_core.States.{IsAmong, Record}
use Rattle.floor_laws.specs.table.nodes.FloorSeats.{HasTaskSlots}
use Rattle.floor_laws.specs.table.nodes.Seats.{TreeSeat}
use Rattle.task_floor.specs.Committing.{with_first}

-- the seat after an entry, with the first turn of the task that it made, if it made one
abbrev pub tree_seat_with : TreeSeat → ℕ → Option TaskRow → TreeSeat
tree_seat_with drawn child None = drawn
tree_seat_with drawn child (Some row) = with_first drawn child row

-- The seat may keep or give the first turn of the task that an entry made, if it made one: this is what its slot will hold.
pub record MayBringBeside (lim : Bounds) (me : TreeSeat) (child : ℕ) (slot : Option TaskSlot) (drawn : TreeSeat)
    (row : Option TaskRow) : Type 0 where
  pub is : me ≡ tree_seat_with drawn child row
  pub slots : HasTaskSlots lim.tasks drawn.1
  pub closed : drawn.0.floor.segment ≡ None
  pub slot_is : slot ≡ option_map slot_of row
  pub below : ForSome row (λ _. child < lim.tasks)
  pub new : ForSome row IsNew
  pub unplaced : ForSome row (λ _. (r : Record) → IsAmong r drawn.0.fresh → r.task ≢ child)
