use Rattle.flat_sched.proofs.Holders.{one_cycle}
use Rattle.flat_sched.proofs.laws.one_stuck_cycle.Goals as goal

pub returns : goal.returns
returns c st cycle other = one_cycle st cycle other
