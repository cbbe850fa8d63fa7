use Rattle.std.proofs.Common.{take}
use Rattle.task_floor.specs.inner.Recording.{HoldRecords}
use Rattle.task_floor.proofs.sorting.contents_of.Given as goal

-- the contents have the first records
abbrev pub invariant-loop-standing : goal.invariant-loop-standing
invariant-loop-standing l = HoldRecords l.nodes (take l.standing-index l.records) l.contents
