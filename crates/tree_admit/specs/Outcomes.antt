-- What comes of going into the tree for one effect of a task.
use Rattle.std.specs.Prelude.{◌≡◌, ◌≢◌, None, length}
use Rattle.twe_base.specs.Limits.{Bounds}
use Rattle.floor_laws.specs.declared.table.view.SeatKind.TheVariants.{Spent}
use Rattle.floor_laws.specs.admission.admission_core.States.{IsAmong, Record}
use Rattle.floor_laws.specs.table.nodes.Seats.{TreeSeat}
use Rattle.tree_admit.specs.declared.footing.Footing.{Footing}
use Rattle.tree_admit.specs.Errands.{with_clear, with_placed, with_removed}
use Rattle.tree_admit.specs.Going.{HasLeft, IsOutside}

-- The footing says what is so of a seat that stands outside the tree.
pub record StandsOn (lim : Bounds) (footing : Footing) (me : TreeSeat) : Type 0 where
  pub live : me.0.floor.kind ≢ Spent
  pub worker : footing.worker ≡ me.0.floor.worker
  pub tasks : footing.tasks ≡ lim.tasks
  pub slots : footing.slots ≡ length me.1
  pub outside : IsOutside me.0

-- The record stands, and the seat knows that it has placed it: it placed it now, or it had done so before.
pub data HasPlaced (before : TreeSeat) (r : Record) (after : TreeSeat) : Type 0 where
  placed : HasLeft (with_placed r before.0) before.1 None after → HasPlaced before r after
  stood : IsAmong r before.0.fresh → HasLeft before.0 before.1 None after → HasPlaced before r after

-- The record does not stand, and the seat knows that: it removed it now, or it did not find it.
pub data IsTakenOut (before : TreeSeat) (r : Record) (after : TreeSeat) : Type 0 where
  removed : HasLeft (with_removed r before.0) before.1 None after → IsTakenOut before r after
  missing : ¬ IsAmong r before.0.fresh → HasLeft (with_clear r before.0) before.1 None after → IsTakenOut before r after
