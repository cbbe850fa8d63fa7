use Rattle.std.proofs.Common.{length}
use Rattle.machine_state.specs.Runs.{counted}
use Rattle.span_profile.specs.Strands.{strands}
use Rattle.schedules.proofs.PacedTimes.{timetable}
use Rattle.span_profile.specs.Speed.{EntryLeads, entry_weight}
use Rattle.span_profile.proofs.PacedRuns.{run_least, run_short}
use Rattle.span_profile.proofs.pace_laws.paced_workers_are_fast.Goals as goal

pub returns-clause-keeps : goal.returns-clause-keeps
returns-clause-keeps c = λ p lim moves span workers time starts ends times is.
    (is.slots, timetable (EntryLeads p lim (counted times.journal)) (entry_weight p lim (counted times.journal)) (length (strands p lim (counted times.journal))) span starts ends times.earliest workers time is, is.time_is)

pub returns-clause-least : goal.returns-clause-least
returns-clause-least c = λ p lim moves work span workers time chain starts ends some profile times is.
    run_least p lim moves work span workers time chain starts ends profile times is some

pub returns-clause-short : goal.returns-clause-short
returns-clause-short c = λ p lim moves work span workers time chain starts ends profile times is.
    run_short p lim moves work span workers time chain starts ends profile times is
