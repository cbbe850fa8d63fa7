use Rattle.machine_state.proofs.standing.SettlesNext.{may_settle}
use Rattle.machine_state.proofs.laws.segments_may_be_settled.Goals as goal

pub returns : goal.returns
returns c = may_settle
