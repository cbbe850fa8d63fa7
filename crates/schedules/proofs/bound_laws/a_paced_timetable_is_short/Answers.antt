use Rattle.schedules.specs.Graphs.{LeadsIn, entry_count, weight_in}
use Rattle.schedules.proofs.PacedTimes.{least, short, timetable}
use Rattle.schedules.proofs.bound_laws.a_paced_timetable_is_short.Goals as goal

pub returns-clause-keeps : goal.returns-clause-keeps
returns-clause-keeps c = λ graph span starts ends processors time are is.
    (is.slots, timetable (LeadsIn graph) (weight_in graph) (entry_count graph) span starts ends are processors time is, is.time_is)

pub returns-clause-least : goal.returns-clause-least
returns-clause-least c = λ graph span starts ends processors time are is some.
    least (LeadsIn graph) (weight_in graph) (entry_count graph) span starts ends are processors time is some

pub returns-clause-short : goal.returns-clause-short
returns-clause-short c = λ graph span starts ends processors time are is.
    short (LeadsIn graph) (weight_in graph) (entry_count graph) span starts ends are processors time is
