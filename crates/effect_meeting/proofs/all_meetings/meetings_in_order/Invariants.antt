use Rattle.std.proofs.Common.{◌≡◌, ◌++◌, drop}
use Rattle.effect_meeting.specs.MeetingsOf.{meetings_of}
use Rattle.effect_meeting.proofs.all_meetings.meetings_in_order.Given as goal

-- those so far and those of what is left are those of all
abbrev pub invariant-loop-a : goal.invariant-loop-a
invariant-loop-a l = l.found ++ meetings_of (drop l.a-index l.first) l.second ≡ meetings_of l.first l.second
