use Rattle.std.proofs.Common.{◌≡◌}
use Rattle.schedules.specs.Timetables.{jobs_below}
use Rattle.schedules.proofs.pacing.jobs.Given as goal

-- the entries up to here are there
abbrev pub invariant-loop-entry : goal.invariant-loop-entry
invariant-loop-entry l = l.jobs.items ≡ jobs_below l.starts l.ends l.entry
