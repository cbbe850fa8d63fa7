use Rattle.std.proofs.Common.{sym, ◌∙◌}
use Rattle.effect_meeting.proofs.Along.{never-long}
use Rattle.effect_meeting.proofs.meeting.meeting_along.Goals as goal

-- no concrete path of the first path has this length
pub returns-then-not-has_length-clause-none : goal.returns-then-not-has_length-clause-none
returns-then-not-has_length-clause-none c = λ d met third.
    never-long c.args.shared c.args.first.now c.args.second.now c.args.third.now c.args.first.now
    (sym c.has_length.ensures.exact ∙ c.if-not-has_length.true) met.first d third met.in_first

-- nor of the second path
pub returns-then-not-has_length-2-clause-none : goal.returns-then-not-has_length-2-clause-none
returns-then-not-has_length-2-clause-none c = λ d met third.
    never-long c.args.shared c.args.first.now c.args.second.now c.args.third.now c.args.second.now
    (sym c.has_length-2.ensures.exact ∙ c.if-not-has_length-2.true) met.second d third met.in_second
