use Rattle.std.proofs.Common.{length}
use Rattle.effect_infer.proofs.Finding.{SpreadsTo}
use Rattle.effect_infer.proofs.spread.hand_on_from.Given as goal

-- the needs so far were handed on
abbrev pub invariant-loop-at : goal.invariant-loop-at
invariant-loop-at l = SpreadsTo (length l.callers) l.calls l.fn.all l.at l.all
