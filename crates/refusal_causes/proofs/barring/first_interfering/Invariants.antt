use Rattle.std.proofs.Common.{◌≡◌, false, take}
use Rattle.std.specs.List.{All}
use Rattle.effect_sets.specs.Interference.{statically_interferes}
use Rattle.refusal_causes.proofs.barring.first_interfering.Given as goal

-- none so far interferes
abbrev pub invariant-loop-other : goal.invariant-loop-other
invariant-loop-other l = All (λ other. statically_interferes l.effect other ≡ false) (take l.other-index l.other-items)
