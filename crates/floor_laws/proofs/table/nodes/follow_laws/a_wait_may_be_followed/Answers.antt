use Rattle.floor_laws.proofs.table.nodes.Following.{follow}
use Rattle.floor_laws.proofs.table.nodes.follow_laws.a_wait_may_be_followed.Goals as goal

pub returns : goal.returns
returns c = follow
