use Rattle.floor_laws.proofs.table.nodes.PassingBy.{pass_by}
use Rattle.floor_laws.proofs.table.nodes.lock_laws.a_node_may_be_passed_by.Goals as goal

pub returns : goal.returns
returns c = pass_by
