use Rattle.machine_state.specs.Moves.{start_of}
use Rattle.machine_state.proofs.replays.OneLowest.{one_from}
use Rattle.machine_state.proofs.laws.one_lowest_first.Goals as goal

pub returns : goal.returns
returns c p lim journal other = one_from p lim (start_of p lim) journal other
