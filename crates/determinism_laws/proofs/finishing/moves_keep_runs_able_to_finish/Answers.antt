use Rattle.determinism_laws.proofs.KeptFinishing.{finishing_stays}
use Rattle.determinism_laws.proofs.finishing.moves_keep_runs_able_to_finish.Goals as goal

pub returns : goal.returns
returns c = finishing_stays
