use Rattle.determinism_laws.proofs.NeverStrays.{never_strays}
use Rattle.determinism_laws.proofs.executions.deterministic_executions_never_stray.Goals as goal

pub returns : goal.returns
returns c = never_strays
