use Rattle.std.proofs.Common.{take}
use Rattle.std.specs.List.{All}
use Rattle.refusal_causes.specs.inner.Keeping.{IsFreeOf}
use Rattle.refusal_causes.proofs.barring.first_pair.Given as goal

-- none so far interferes with one of the others
abbrev pub invariant-loop-need : goal.invariant-loop-need
invariant-loop-need l = All (IsFreeOf l.others) (take l.need-index l.needs)
