use Rattle.refusal_causes.proofs.Trails.{trail-path, trail-out}
use Rattle.refusal_causes.proofs.laws.trails_are_control_paths.Goals as goal

pub returns-clause-path : goal.returns-clause-path
returns-clause-path c = trail-path

pub returns-clause-out : goal.returns-clause-out
returns-clause-out c = trail-out
