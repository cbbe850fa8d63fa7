use Rattle.std.proofs.Common.{◌≡◌, ◌++◌, replicate, None, map}
use Rattle.floor_laws.specs.declared.table.nodes.slot.TreeSlot.TheVariants as kinds
use Rattle.task_floor.proofs.planting.add_empty.Given as goal

abbrev pub invariant-loop-i : goal.invariant-loop-i
invariant-loop-i l = l.slots.items ≡ l.initial.slots.items ++ map kinds.Task (replicate l.i None)
