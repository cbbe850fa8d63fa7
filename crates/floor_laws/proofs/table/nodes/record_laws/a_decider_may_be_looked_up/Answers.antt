use Rattle.floor_laws.proofs.table.nodes.Deciding.{look_up}
use Rattle.floor_laws.proofs.table.nodes.record_laws.a_decider_may_be_looked_up.Goals as goal

pub returns : goal.returns
returns c = look_up
