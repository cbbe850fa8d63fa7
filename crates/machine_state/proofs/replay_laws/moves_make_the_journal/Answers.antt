use Rattle.machine_state.specs.Moves.{start_of}
use Rattle.machine_state.proofs.replays.Replayed.{one_from}
use Rattle.machine_state.proofs.replay_laws.moves_make_the_journal.Goals as goal

pub returns : goal.returns
returns c p lim journal other = one_from p lim (start_of p lim) journal other
