use Rattle.std.proofs.Common.{◌≡◌, ◌++◌, drop}
use Rattle.std.specs.List.{flat_map}
use Rattle.twe_names.specs.Meaning.{methods_of_item}
use Rattle.twe_names.proofs.program.methods.Given as goal

-- the methods so far and those of what is left are all of them
abbrev pub invariant-loop-item : goal.invariant-loop-item
invariant-loop-item l = l.methods ++ flat_map (methods_of_item l.globals) (drop l.item-index l.items) ≡ flat_map (methods_of_item l.globals) l.items
