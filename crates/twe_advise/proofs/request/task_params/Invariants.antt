use Rattle.std.proofs.Common.{◌≡◌, drop}
use Rattle.twe_advise.specs.Parameters.{task_params}
use Rattle.twe_advise.proofs.request.task_params.Given as goal

-- so many tasks are left before the one that is looked for
abbrev pub invariant-loop-item : goal.invariant-loop-item
invariant-loop-item l = task_params (drop l.item-index l.items) l.left ≡ task_params l.items l.task
