use Rattle.isolation_laws.proofs.running.Covered.{reached_declarations}
use Rattle.isolation_laws.proofs.laws.tasks_keep_to_their_declarations.Goals as goal

pub returns : goal.returns
returns c = reached_declarations
