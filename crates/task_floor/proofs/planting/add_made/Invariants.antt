use Rattle.std.proofs.Common.{◌≡◌, ◌++◌, length, map}
use Rattle.std.specs.Vec.Iter.{into_iter_items, into_iter_len}
use Rattle.floor_laws.specs.declared.table.nodes.slot.TreeSlot.TheVariants as kinds
use Rattle.task_floor.specs.steps.inner.Laying.{held_slot}
use Rattle.task_floor.proofs.planting.add_made.Given as goal

-- those that are left come behind the slots so far
abbrev pub invariant-loop-row : goal.invariant-loop-row
invariant-loop-row l = record {
  slots : l.slots.items ++ map kinds.Task (map held_slot (into_iter_items l.row-iterator)) ≡ l.initial.slots.items ++ map kinds.Task (map held_slot l.fn.tasks);
  count : into_iter_len l.row-iterator ≡ length (into_iter_items l.row-iterator);
}
