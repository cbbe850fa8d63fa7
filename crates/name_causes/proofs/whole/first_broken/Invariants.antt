use Rattle.std.proofs.Common.{take}
use Rattle.std.specs.List.{All}
use Rattle.name_causes.specs.inner.Rest.{KeepsRule}
use Rattle.name_causes.proofs.whole.first_broken.Given as goal

-- none so far breaks the rule at the place
abbrev pub invariant-loop-placed : goal.invariant-loop-placed
invariant-loop-placed l = All (KeepsRule l.rule l.place) (take l.placed-index l.needs)
