use Rattle.steal_pool.proofs.AloneLemmas.{first_left, all_taken}
use Rattle.steal_pool.proofs.laws.lone_worker_takes_in_order.Goals as goal

pub returns-clause-first : goal.returns-clause-first
returns-clause-first c = first_left

pub returns-clause-empty : goal.returns-clause-empty
returns-clause-empty c = all_taken
