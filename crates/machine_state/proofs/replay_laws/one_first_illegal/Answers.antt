use Rattle.machine_state.proofs.replays.Replayed.{never_both, one_first}
use Rattle.machine_state.proofs.replay_laws.one_first_illegal.Goals as goal

pub returns : goal.returns
returns c = record { never_both = never_both; one = one_first }
