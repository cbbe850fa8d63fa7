use Rattle.std.proofs.Common.{◌≡◌, ◌≤◌, drop}
use Rattle.twe_base.specs.Language.{max_cells}
use Rattle.name_causes.specs.Causes.{cells_up_to}
use Rattle.name_causes.proofs.whole.cells_up_to.Given as goal

-- the cells so far and those of what is left; so far there are no more than the limit
abbrev pub invariant-loop-item : goal.invariant-loop-item
invariant-loop-item l = record {
  counted : cells_up_to l.place l.sum (drop l.item-index l.items) ≡ cells_up_to l.place 0 l.items;
  few : l.sum ≤ max_cells;
}
