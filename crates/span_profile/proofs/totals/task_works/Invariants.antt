use Rattle.std.proofs.Common.{◌≡◌, take}
use Rattle.span_profile.specs.Totals.{works_from}
use Rattle.span_profile.proofs.totals.task_works.Given as goal

-- the tasks up to here are there
abbrev pub invariant-loop-task : goal.invariant-loop-task
invariant-loop-task l = l.works ≡ works_from l.fuel l.journal 0 (take l.task l.rows)
