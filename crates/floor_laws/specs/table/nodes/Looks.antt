-- What a seat looked at without changing it.
use Rattle.std.specs.Prelude.{◌∷◌}
use Rattle.floor_laws.specs.declared.table.nodes.view.Look.{Look}
use Rattle.floor_laws.specs.declared.table.nodes.view.TreeView.{TreeView}
use Rattle.floor_laws.specs.table.nodes.Seats.{TreeSeat}

-- the seat found this once more; it knows nothing else
abbrev pub looked_view : TreeView → Look → TreeView
looked_view v look = record v { looks = look ∷ v.looks }

-- the same of the seat with the slots that it has out
abbrev pub looked_seat : TreeSeat → Look → TreeSeat
looked_seat me look = (looked_view me.0 look, me.1)
