-- The cells so far were counted, and they stay within the limits.
use Rattle.std.proofs.Common.{take}
use Rattle.name_check.specs.cell_limits.GoesOver.{cells_of}
use Rattle.name_check.specs.cell_limits.inner.Counting.{HasCounted}
use Rattle.name_check.proofs.cell_limits.over.first_counted.Given as goal

abbrev pub invariant-loop-item : goal.invariant-loop-item
invariant-loop-item l = HasCounted l.names (cells_of (take l.item-index l.items)) l.count
