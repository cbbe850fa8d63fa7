use Rattle.std.proofs.Common.{take}
use Rattle.std.specs.List.{All}
use Rattle.refusal_causes.specs.inner.Keeping.{IsDeclared}
use Rattle.refusal_causes.proofs.needing.first_undeclared.Given as goal

-- those so far are declared
abbrev pub invariant-loop-need : goal.invariant-loop-need
invariant-loop-need l = All (IsDeclared l.summary) (take l.need-index l.needs)
