use Rattle.schedules.specs.Graphs.{LeadsIn, entry_count, weight_in}
use Rattle.schedules.proofs.Bounds.{short}
use Rattle.schedules.proofs.bound_laws.a_greedy_schedule_is_short.Goals as goal

pub returns : goal.returns
returns c = λ graph processors span start forward is most. short (LeadsIn graph) forward (weight_in graph) (entry_count graph) processors start is span most
