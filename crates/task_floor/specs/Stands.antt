-- What a call of the floor says of a stand that holds no node. Its floor's seat knows all but the nodes, and has the slots of
-- tasks.
use Rattle.std.specs.Prelude.{◌≡◌}
use Rattle.atomic_table.specs.declared.shared.Seat.{Seat as TableSeat}
use Rattle.twe_base.specs.Limits.{Bounds}
use Rattle.task_floor.specs.steps.Segments.{StandValue}
use Rattle.floor_laws.specs.declared.table.nodes.slot.TreeSlot.{TreeSlot}
use Rattle.floor_laws.specs.declared.table.nodes.view.TreeView.{TreeView}
use Rattle.floor_laws.specs.table.nodes.FloorSeats.{HasTaskSlots, floor_seat}
use Rattle.floor_laws.specs.table.nodes.Seats.{TreeSeat}

-- a stand, as clauses see it
abbrev pub TreeStand : Type 0
TreeStand = TableSeat TreeSlot TreeView

-- the same without what it knows of nodes
abbrev pub floor_stand : TreeStand → StandValue
floor_stand stand = record { marker = record {}; table_id = stand.table_id; id = stand.id; me = floor_seat stand.me }

-- Of nodes the seat knows what it knew, and it has slots of tasks out alone.
pub record StaysInTree (lim : Bounds) (before after : TreeSeat) : Type 0 where
  pub view : after.0 ≡ record before.0 { floor = after.0.floor }
  pub slots : HasTaskSlots lim.tasks after.1
