use Rattle.std.proofs.Common.{take}
use Rattle.std.specs.List.{All}
use Rattle.refusal_causes.specs.inner.Keeping.{IsNoMake}
use Rattle.refusal_causes.proofs.ordering.place_of_making.Given as goal

-- none of the acts so far makes the future's task
abbrev pub invariant-loop-act : goal.invariant-loop-act
invariant-loop-act l = All (IsNoMake l.future) (take l.act-index l.acts)
