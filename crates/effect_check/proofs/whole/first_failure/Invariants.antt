use Rattle.std.proofs.Common.{◌⊎◌, take}
use Rattle.effect_check.specs.FailsEffect.{MethodFails}
use Rattle.effect_check.specs.inner.First.{IsFirstOf, OneFails, FailsInTask}
use Rattle.effect_check.proofs.whole.first_failure.Given as goal

-- the first failure of the tasks and of the methods so far
abbrev pub invariant-loop-method : goal.invariant-loop-method
invariant-loop-method l =
    IsFirstOf (λ f. FailsInTask l.p f ⊎ OneFails (λ method g. MethodFails l.p method g.rule g.place) (take l.method-index l.p.methods) f) l.first
