use Rattle.std.proofs.Common.{◌≡◌, ◌++◌, drop}
use Rattle.twe_annotate.specs.Texts.{more_meetings}
use Rattle.twe_annotate.proofs.text.push_more_meetings.Given as goal

-- the text so far, with what is left
abbrev pub invariant-loop-meeting : goal.invariant-loop-meeting
invariant-loop-meeting l =
    l.text ++ more_meetings l.first l.second (drop l.meeting-index l.meetings) ≡ l.fn.text ++ more_meetings l.first l.second l.meetings
