use Rattle.std.proofs.Common.{◌≡◌, ◌<◌, ◌^◌, drop}
use Rattle.std.specs.List.{sum_by}
use Rattle.name_check.specs.Size.{size_of_item}
use Rattle.name_check.specs.inner.Whole.{first_in_items}
use Rattle.name_check.proofs.whole.check_items.Given as goal

-- the first so far and what is left give the first of all
abbrev pub invariant-loop-item : goal.invariant-loop-item
invariant-loop-item l = record {
  reported : first_in_items l.globals l.first (drop l.item-index l.items) ≡ first_in_items l.globals l.fn.first l.items;
  room : sum_by size_of_item (drop l.item-index l.items) < 2 ^ 32;
}
