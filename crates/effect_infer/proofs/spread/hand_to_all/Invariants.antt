use Rattle.std.proofs.Common.{take}
use Rattle.effect_infer.specs.Covered.{SummaryGrows, IsHandedBy}
use Rattle.effect_infer.proofs.spread.hand_to_all.Given as goal

-- the calls so far have handed the need on
abbrev pub invariant-loop-place : goal.invariant-loop-place
invariant-loop-place l = SummaryGrows l.fn.all l.all (IsHandedBy l.calls (take l.place-index l.places) l.method l.need)
