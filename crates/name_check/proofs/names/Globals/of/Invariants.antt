use Rattle.std.proofs.Common.{◌≡◌, ◌++◌, drop}
use Rattle.std.specs.List.{sum_by}
use Rattle.name_check.specs.Names.{globals_from, globals_of}
use Rattle.name_check.specs.Size.{size_of_item}
use Rattle.name_check.specs.inner.Counts.{HaveRoom, before_of}
use Rattle.name_check.proofs.names.Globals.of.Given as goal

-- the names so far and those of the items that are left are all of them
abbrev pub invariant-loop-item : goal.invariant-loop-item
invariant-loop-item l = record {
  all : l.globals ++ globals_from (before_of l.counts) (drop l.item-index l.item-items) ≡ globals_of l.ast;
  room : HaveRoom (before_of l.counts) (sum_by size_of_item (drop l.item-index l.item-items));
}
