use Rattle.std.proofs.Common.{◌≡◌, ◌∷◌, codes, ◌++◌, drop}
use Rattle.std.specs.List.{flat_map}
use Rattle.twe_names.specs.Meaning.{regions_of_item}
use Rattle.twe_names.proofs.program.regions.Given as goal

-- the regions so far and those of what is left are all of them
abbrev pub invariant-loop-item : goal.invariant-loop-item
invariant-loop-item l = l.regions ++ flat_map regions_of_item (drop l.item-index l.items) ≡ codes "Console" ∷ flat_map regions_of_item l.items
