use Rattle.std.proofs.Common.{take}
use Rattle.std.specs.List.{All}
use Rattle.cover_flow.specs.Flow.{IsFlowOf}
use Rattle.refusal_causes.specs.inner.Keeping.{IsNoBar}
use Rattle.refusal_causes.proofs.barring.bar_among.Given as goal

-- the facts are those of the body, and no act so far bars one of the needed effects
abbrev pub invariant-loop-act : goal.invariant-loop-act
invariant-loop-act l = record {
  facts : IsFlowOf l.points l.task.body;
  none : All (IsNoBar l.task l.point l.needs) (take l.act-index l.acts);
}
