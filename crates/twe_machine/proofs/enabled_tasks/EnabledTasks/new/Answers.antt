use Rattle.machine_state.specs.Moves.{start_of}
use Rattle.machine_state.proofs.tasks.MadeTasks.{none_enabled}
use Rattle.twe_machine.proofs.enabled_tasks.EnabledTasks.new.Goals as goal

-- at the start no task is enabled
pub returns-clause-start : goal.returns-clause-start
returns-clause-start c = λ p lim. record {
  all = λ s row e here enabled has. absurd (none_enabled p lim s (row, here, enabled));
  decided = record { reads = c.in_ok-new.ensures (start_of p lim).links; writes = c.in_ok-new-2.ensures (start_of p lim).links };
}
