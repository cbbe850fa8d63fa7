use Rattle.floor_laws.proofs.rule.nodes.LockEvents.{walking_up}
use Rattle.floor_laws.proofs.rule.nodes.lock_laws.a_finished_node_may_be_unlocked.Goals as goal

pub returns : goal.returns
returns k nodes p lim log f tree core i a c n stack done both may = walking_up nodes p lim log f tree core both i a c n stack done may
