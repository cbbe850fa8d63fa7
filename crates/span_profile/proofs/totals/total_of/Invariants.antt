use Rattle.std.proofs.Common.{◌≡◌, ◌≤◌, ◌*◌, ◌^◌, take}
use Rattle.span_profile.specs.Totals.{total_of}
use Rattle.span_profile.proofs.totals.total_of.Given as goal

-- this is what the tasks up to here took, and it is not much
abbrev pub invariant-loop-task : goal.invariant-loop-task
invariant-loop-task l = record {
  same : l.total ≡ total_of l.decl (take l.task-index l.works);
  made_few : l.total.made ≤ l.task-index;
  work_small : l.total.work ≤ l.task-index * 2 ^ 45;
}
