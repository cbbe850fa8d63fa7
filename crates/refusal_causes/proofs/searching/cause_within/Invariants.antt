use Rattle.std.proofs.Common.{take}
use Rattle.std.specs.List.{All}
use Rattle.refusal_causes.specs.inner.Keeping.{IsKept}
use Rattle.refusal_causes.proofs.searching.cause_within.Given as goal

-- no act so far fails the rule
abbrev pub invariant-loop-act : goal.invariant-loop-act
invariant-loop-act l = All (IsKept l.p l.rule l.place l.decl) (take l.act-index l.acts)
