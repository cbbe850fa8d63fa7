use Rattle.effect_infer.proofs.RowItems.{ListsSome}
use Rattle.effect_infer.proofs.callers.callers_of.Given as goal

-- the places so far are listed
abbrev pub invariant-loop-place : goal.invariant-loop-place
invariant-loop-place l = ListsSome l.methods l.calls l.place l.callers
