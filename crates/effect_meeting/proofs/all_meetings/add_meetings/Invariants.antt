use Rattle.std.proofs.Common.{◌≡◌, ◌++◌, drop}
use Rattle.effect_meeting.specs.MeetingsOf.{meetings_from}
use Rattle.effect_meeting.proofs.all_meetings.add_meetings.Given as goal

-- those so far and those of what is left are those of all
abbrev pub invariant-loop-b : goal.invariant-loop-b
invariant-loop-b l = l.found ++ meetings_from (drop l.b-index l.others) l.a ≡ l.fn.found ++ meetings_from l.others l.a
