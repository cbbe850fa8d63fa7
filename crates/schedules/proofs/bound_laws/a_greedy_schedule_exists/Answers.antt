use Rattle.schedules.specs.Graphs.{LeadsIn, entry_count, followers, weight_in}
use Rattle.schedules.proofs.GreedyStarts.{contains_or_not, greedy_starts}
use Rattle.schedules.proofs.bound_laws.a_greedy_schedule_exists.Goals as goal

pub returns : goal.returns
returns c = λ graph processors some forward.
    greedy_starts (LeadsIn graph) (λ entry next. contains_or_not (followers graph entry) next) forward (weight_in graph) (entry_count graph) processors some
