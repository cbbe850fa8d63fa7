use Rattle.std.proofs.Common.{◌≡◌, drop}
use Rattle.std.specs.List.{list_any}
use Rattle.name_check.specs.inner.Whole.{is_main_item}
use Rattle.name_check.proofs.whole.has_main.Given as goal

-- if there is one, it is among what is left
abbrev pub invariant-loop-item : goal.invariant-loop-item
invariant-loop-item l = list_any is_main_item (drop l.item-index l.items) ≡ list_any is_main_item l.items
