use Rattle.schedules.specs.Graphs.{LeadsIn, entry_count, weight_in}
use Rattle.schedules.proofs.Bounds.{not_shorter}
use Rattle.schedules.proofs.bound_laws.no_schedule_is_shorter.Goals as goal

pub returns : goal.returns
returns c = λ graph processors span start some is reached. not_shorter (LeadsIn graph) (weight_in graph) (entry_count graph) processors start is span some reached
