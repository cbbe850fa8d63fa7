use Rattle.std.proofs.Common.{◌≡◌}
use Rattle.core.specs.Mem.Slots.{slots_items}
use Rattle.floor_laws.specs.table.Layout.{cell_words_from}
use Rattle.task_floor.proofs.reading.cells_of.Given as goal

abbrev pub invariant-loop-c : goal.invariant-loop-c
invariant-loop-c l = l.cells ≡ cell_words_from (slots_items l.table.words) 8 l.c
