use Rattle.std.proofs.Common.{◌*◌, take}
use Rattle.schedules.specs.inner.Placing.{AreSmall, most_64}
use Rattle.schedules.proofs.OneMore.{Pacing}
use Rattle.schedules.proofs.pacing.paced_time.Given as goal

-- the timetable of the entries up to here, and small numbers
abbrev pub invariant-loop-job : goal.invariant-loop-job
invariant-loop-job l = record {
  pacing : Pacing l.processors (take l.job-index l.order) l.free l.delay l.time;
  small : AreSmall l.free l.delay (l.job-index * most_64);
}
