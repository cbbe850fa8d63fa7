use Rattle.std.proofs.Common.{length}
use Rattle.effect_infer.specs.Kept.{KeepsNeeds}
use Rattle.effect_infer.proofs.Keeping.{DoneUpTo}
use Rattle.effect_infer.proofs.keep.keep_rank.Given as goal

-- the needs so far of this rank are done with
abbrev pub invariant-loop-found : goal.invariant-loop-found
invariant-loop-found l = KeepsNeeds (length l.fn.table) l.all l.table (DoneUpTo (length l.fn.table) l.all l.this l.found-index)
