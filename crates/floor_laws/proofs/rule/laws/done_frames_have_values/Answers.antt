use Rattle.floor_laws.proofs.rule.DoneValues.{reached_has}
use Rattle.floor_laws.proofs.rule.laws.done_frames_have_values.Goals as goal

pub returns : goal.returns
returns c p lim st well reached = reached_has p lim well st reached
