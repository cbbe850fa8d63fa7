use Rattle.std.proofs.Common.{ℕ, length}
use Rattle.machine_state.specs.declared.state.TaskStatus.TheVariants.{Made}
use Rattle.machine_state.specs.Rows.{HasStatus}
use Rattle.flat_sched.specs.inner.Lists.{IsReady}
use Rattle.flat_sched.proofs.passing.take_made.Given as goal

abbrev pub invariant-taking : goal.invariant-taking
invariant-taking l = record {
  kept : (u : ℕ) → HasStatus l.st u Made → IsReady l.initial.tasks u → IsReady l.tasks u;
  back : (u : ℕ) → IsReady l.tasks u → IsReady l.initial.tasks u;
}

abbrev pub decreases-taking : goal.decreases-taking
decreases-taking l = length l.tasks
