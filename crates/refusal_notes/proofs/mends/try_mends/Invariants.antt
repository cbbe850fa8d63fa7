use Rattle.std.proofs.Common.{take}
use Rattle.refusal_notes.specs.Mends.{AreTried}
use Rattle.refusal_notes.proofs.mends.try_mends.Given as goal

-- the edits so far are tried
abbrev pub invariant-loop-mend : goal.invariant-loop-mend
invariant-loop-mend l = AreTried (take l.mend-index l.mends) l.fn.remarks l.remarks
