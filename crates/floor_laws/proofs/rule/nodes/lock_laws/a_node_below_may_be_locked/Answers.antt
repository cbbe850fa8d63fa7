use Rattle.floor_laws.proofs.rule.nodes.LockEvents.{walking_down}
use Rattle.floor_laws.proofs.rule.nodes.lock_laws.a_node_below_may_be_locked.Goals as goal

pub returns : goal.returns
returns k nodes p lim log f tree core i a t e n c stack done both may free = walking_down nodes p lim log f tree core both i a t e n c stack done may free
