use Rattle.std.proofs.Common.{length}
use Rattle.refusal_causes.specs.text_rules.inner.Walked.{IsOnItsWay}
use Rattle.refusal_causes.proofs.text_rules.walk.open_at.Given as goal

-- what is left, and where the walk stands
abbrev pub invariant-loop-rest : goal.invariant-loop-rest
invariant-loop-rest l = IsOnItsWay l.text l.rest l.walk l.place

abbrev pub decreases-loop-rest : goal.decreases-loop-rest
decreases-loop-rest l = length l.rest
