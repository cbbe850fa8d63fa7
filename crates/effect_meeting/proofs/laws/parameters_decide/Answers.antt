use Rattle.effect_meeting.proofs.OneCall.{decided}
use Rattle.effect_meeting.proofs.laws.parameters_decide.Goals as goal

pub returns : goal.returns
returns c = decided
