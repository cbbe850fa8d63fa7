use Rattle.determinism_laws.proofs.NeverStuck.{never_stuck, some_move}
use Rattle.determinism_laws.proofs.endings.deterministic_runs_are_never_stuck.Goals as goal

pub returns : goal.returns
returns c = record { moves = some_move; never_stuck = never_stuck }
