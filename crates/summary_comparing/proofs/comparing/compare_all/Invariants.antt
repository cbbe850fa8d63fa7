use Rattle.std.proofs.Common.{take}
use Rattle.summary_comparing.specs.Comparisons.{AreComparisons}
use Rattle.summary_comparing.proofs.comparing.compare_all.Given as goal

-- the declarations so far are compared
abbrev pub invariant-loop-decl : goal.invariant-loop-decl
invariant-loop-decl l = AreComparisons l.p l.summaries (take l.decl-index l.decls) l.comparisons
