use Rattle.schedules.specs.Graphs.{LeadsIn, entry_count, weight_in}
use Rattle.schedules.proofs.InTurn.{one_after_another}
use Rattle.schedules.proofs.bound_laws.one_after_another_takes_the_work.Goals as goal

pub returns : goal.returns
returns c = λ graph processors some forward. one_after_another (LeadsIn graph) forward (weight_in graph) (entry_count graph) processors some
