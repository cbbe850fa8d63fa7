use Rattle.std.proofs.Common.{take}
use Rattle.std.specs.List.{All}
use Rattle.refusal_causes.specs.inner.Keeping.{IsNoBar}
use Rattle.refusal_causes.proofs.barring.bar_in_group.Given as goal

-- no spawn so far bars one of the needed effects
abbrev pub invariant-loop-act : goal.invariant-loop-act
invariant-loop-act l = All (IsNoBar l.task l.point l.needs) (take l.act-index l.makes)
