use Rattle.std.proofs.Common.{◌≡◌, ◌++◌, drop}
use Rattle.std.specs.List.{flat_map}
use Rattle.twe_names.specs.Meaning.{tasks_of_item}
use Rattle.twe_names.proofs.program.tasks.Given as goal

-- the tasks so far and those of what is left are all of them
abbrev pub invariant-loop-item : goal.invariant-loop-item
invariant-loop-item l = l.tasks ++ flat_map (tasks_of_item l.globals) (drop l.item-index l.items) ≡ flat_map (tasks_of_item l.globals) l.items
