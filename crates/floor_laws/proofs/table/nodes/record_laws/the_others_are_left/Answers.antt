use Rattle.floor_laws.proofs.table.nodes.Withouts.{without_is}
use Rattle.floor_laws.proofs.table.nodes.record_laws.the_others_are_left.Goals as goal

pub returns : goal.returns
returns c = without_is
