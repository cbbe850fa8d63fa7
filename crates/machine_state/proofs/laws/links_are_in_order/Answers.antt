use Rattle.machine_state.proofs.links.Ordered.{reached_ordered}
use Rattle.machine_state.proofs.laws.links_are_in_order.Goals as goal

pub returns : goal.returns
returns c = reached_ordered
