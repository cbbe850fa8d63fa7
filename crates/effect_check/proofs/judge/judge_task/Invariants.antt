use Rattle.std.proofs.Common.{◌*◌}
use Rattle.effect_check.specs.inner.Failures.{JudgesFirst}
use Rattle.effect_check.proofs.judge.judge_task.Given as goal

-- the failures that are declared, and those that the groups of futures so far make, are reported
abbrev pub invariant-loop-group : goal.invariant-loop-group
invariant-loop-group l = JudgesFirst l.p l.task (l.group * 128) l.fn.first l.first
