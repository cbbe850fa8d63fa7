use Rattle.determinism_laws.proofs.MainRuns.{done_run, fault_run}
use Rattle.determinism_laws.proofs.executions.sequential_executions_of_main_are_runs.Goals as goal

pub returns : goal.returns
returns c = record { whole = done_run; fault = fault_run }
