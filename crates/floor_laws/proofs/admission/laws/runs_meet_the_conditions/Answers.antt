use Rattle.floor_laws.proofs.admission.MeetLemmas.{runs_meet}
use Rattle.floor_laws.proofs.admission.laws.runs_meet_the_conditions.Goals as goal

pub returns : goal.returns
returns c = runs_meet
