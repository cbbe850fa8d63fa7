use Rattle.std.proofs.Common.{take}
use Rattle.effect_check.specs.FailsEffect.{TaskFails}
use Rattle.effect_check.specs.inner.First.{IsFirstOf, OneFails}
use Rattle.effect_check.proofs.whole.first_in_tasks.Given as goal

-- the first failure of the tasks so far
abbrev pub invariant-loop-task : goal.invariant-loop-task
invariant-loop-task l = IsFirstOf (OneFails (λ task f. TaskFails l.p task f.rule f.place) (take l.task-index l.p.tasks)) l.first
