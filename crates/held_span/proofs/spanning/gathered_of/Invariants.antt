use Rattle.std.proofs.Common.{take}
use Rattle.held_span.specs.Gathering.{AreGathered}
use Rattle.held_span.specs.inner.Spanning.{effect_lists}
use Rattle.held_span.proofs.spanning.gathered_of.Given as goal

-- the lists of the tasks up to here
abbrev pub invariant-loop-row : goal.invariant-loop-row
invariant-loop-row l = AreGathered (effect_lists (take l.row-index l.rows)) l.gathered
