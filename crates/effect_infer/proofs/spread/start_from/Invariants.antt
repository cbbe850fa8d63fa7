use Rattle.std.proofs.Common.{length}
use Rattle.effect_infer.proofs.Finding.{StartsTo}
use Rattle.effect_infer.proofs.spread.start_from.Given as goal

-- the needs so far are met, and handed on
abbrev pub invariant-loop-found : goal.invariant-loop-found
invariant-loop-found l = StartsTo (length l.callers) l.calls l.starts l.least l.found-index l.all
