use Rattle.std.proofs.Common.{◌≡◌, sym, ◌∙◌}
use Rattle.flat_sched.proofs.RunEnds.{ended_is_over}
use Rattle.twe_rounds.proofs.Endings.{ended_at, ends_so}
use Rattle.opt_crew.proofs.rounds.run_ahead.Goals as goal

-- the last quiet step found how the run has ended
pub returns-then-is_over-clause-end : goal.returns-then-is_over-clause-end
returns-then-is_over-clause-end g c =
    let old = c.rounds.crew in
    let new = c.quiet_step.new.self in
    let ended = ends_so old new c.in_ok-end.end (sym c.is_over.ensures ∙ c.if-is_over.true) c.in_ok-end.ensures.ok in
    ended_at old new ended.1.0 c.in_ok-journal.journal c.in_ok-journal.state c.in_ok-end.end ended.0 ended.1.1 ended.1.2 c.in_ok-journal.ensures.journal c.in_ok-journal.ensures.state

-- so it is over
pub returns-then-is_over-clause-ended : goal.returns-then-is_over-clause-ended
returns-then-is_over-clause-ended g c =
    ended_is_over c.in_ok-journal.state c.in_ok-end.end (sym c.is_over.ensures ∙ c.if-is_over.true) (returns-then-is_over-clause-end g c)
