use Rattle.std.proofs.Common.{◌≡◌, ◌++◌, length, map}
use Rattle.std.specs.Vec.Iter.{into_iter_items, into_iter_len}
use Rattle.floor_laws.specs.declared.table.nodes.slot.TreeSlot.TheVariants as kinds
use Rattle.task_floor.proofs.planting.add_nodes.Given as goal

-- those that are left come behind the slots so far
abbrev pub invariant-loop-content : goal.invariant-loop-content
invariant-loop-content l = record {
  slots : l.slots.items ++ map kinds.Node (into_iter_items l.content-iterator) ≡ l.initial.slots.items ++ map kinds.Node l.fn.contents;
  count : into_iter_len l.content-iterator ≡ length (into_iter_items l.content-iterator);
}
