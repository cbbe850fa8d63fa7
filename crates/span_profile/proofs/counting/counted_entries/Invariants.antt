use Rattle.span_profile.proofs.CountedParts.{IsClear}
use Rattle.span_profile.proofs.counting.counted_entries.Given as goal

-- no entry up to here has met a fault
abbrev pub invariant-loop-i : goal.invariant-loop-i
invariant-loop-i l = IsClear l.journal l.i
