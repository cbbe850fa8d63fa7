use Rattle.isolation_laws.proofs.admission.Inside.{children_inside}
use Rattle.isolation_laws.proofs.admission.LastMakers.{last_makers_free}
use Rattle.isolation_laws.proofs.admission.Statuses.{reached_made, reached_parents, reached_waiters}
use Rattle.isolation_laws.proofs.laws.states_are_fit_for_admission.Goals as goal

pub returns : goal.returns
returns c = record {
  inside = children_inside;
  waiters = reached_waiters;
  parents = reached_parents;
  made = reached_made;
  last_makers = last_makers_free;
}
