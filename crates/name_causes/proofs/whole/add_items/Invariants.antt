use Rattle.std.proofs.Common.{◌≡◌, ◌++◌, ◌<◌, ◌^◌, drop}
use Rattle.std.specs.List.{flat_map, sum_by}
use Rattle.name_check.specs.Size.{size_of_item}
use Rattle.name_causes.specs.Others.{needs_of_item}
use Rattle.name_causes.proofs.whole.add_items.Given as goal

-- the needs so far and those of what is left are those of all
abbrev pub invariant-loop-item : goal.invariant-loop-item
invariant-loop-item l = record {
  listed : l.needs ++ flat_map (needs_of_item l.globals) (drop l.item-index l.items) ≡ l.fn.needs ++ flat_map (needs_of_item l.globals) l.items;
  room : sum_by size_of_item (drop l.item-index l.items) < 2 ^ 32;
}
