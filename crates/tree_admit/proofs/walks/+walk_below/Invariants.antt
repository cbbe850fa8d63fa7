-- The stand has walked below the first children, and holds the node as before.
use Rattle.std.proofs.Common.{◌≡◌, ℕ, List}
use Rattle.floor_laws.specs.declared.table.nodes.slot.TreeSlot.{TreeSlot}
use Rattle.floor_laws.specs.declared.table.nodes.view.TreeView.{TreeView}
use Rattle.tree_admit.specs.ways.Ways.{room_below}
use Rattle.tree_admit.specs.Descents.{MayWalkBelow}
use Rattle.tree_admit.specs.Going.{HasOnlyLearned}
use Rattle.tree_admit.proofs.Wandering.{HasWalkedPart}
use Rattle.tree_admit.proofs.walks.+walk_below.Given as goal

abbrev pub invariant-loop-at : goal.invariant-loop-at
invariant-loop-at g l = record {
  walk : (earlier : TreeView) (rest : List (ℕ × TreeSlot)) (stack done : List ℕ)
      → MayWalkBelow g.N.Planted.nodes g.N.Named.lim earlier rest l.errand l.effect l.node stack done l.content l.fn.stand.me
      → HasWalkedPart g.N.Planted.nodes g.N.Named.lim earlier rest l.errand l.effect l.node stack done l.children l.at l.content l.stand.me;
  learned : HasOnlyLearned l.fn.stand.me.0 l.stand.me.0;
  here : l.stand.table_id ≡ l.fn.stand.table_id;
  id : l.stand.id ≡ l.fn.stand.id;
}

abbrev pub decreases-walk_below : goal.decreases-walk_below
decreases-walk_below g l = room_below g.N.Planted.nodes l.node
