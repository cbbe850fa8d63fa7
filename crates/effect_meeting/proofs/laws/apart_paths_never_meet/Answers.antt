use Rattle.effect_meeting.proofs.Apartness.{apart-never, filled-meet}
use Rattle.effect_meeting.proofs.laws.apart_paths_never_meet.Goals as goal

pub returns : goal.returns
returns c = record { apart = apart-never; filled = filled-meet }
