use Rattle.machine_state.proofs.segment_laws.Following.{entry_left, given_left, makes_follow, gets_follow, joins_follow}
use Rattle.machine_state.proofs.segment_laws.segments_follow_control_paths.Goals as goal

pub returns : goal.returns
returns c = record { entry = entry_left; given = given_left; makes = makes_follow; gets = gets_follow; joins = joins_follow }
