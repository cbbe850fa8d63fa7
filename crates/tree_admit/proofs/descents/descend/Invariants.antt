-- The stand holds one node above the place, alone.
use Rattle.std.proofs.Common.{◌≡◌}
use Rattle.floor_laws.specs.admission.admission_core.States.{IsAbove}
use Rattle.floor_laws.specs.table.nodes.Seats.{HasOwn}
use Rattle.tree_admit.specs.ways.Ways.{room_below}
use Rattle.tree_admit.specs.Errands.{errand_at}
use Rattle.tree_admit.specs.Going.{HasNode}
use Rattle.tree_admit.proofs.descents.descend.Given as goal

abbrev pub invariant-loop-node : goal.invariant-loop-node
invariant-loop-node g l = record {
  above : IsAbove g.N.Planted.nodes l.node l.errand.place;
  has : HasNode g.N.Named.lim l.fn.stand.me.0 l.fn.stand.me.1 (errand_at l.errand l.effect l.node) l.node l.content l.stand.me;
  own : HasOwn l.fn.stand.me.0 l.node l.content;
  here : l.stand.table_id ≡ l.fn.stand.table_id;
  id : l.stand.id ≡ l.fn.stand.id;
}

abbrev pub decreases-loop-node : goal.decreases-loop-node
decreases-loop-node g l = room_below g.N.Planted.nodes l.node
