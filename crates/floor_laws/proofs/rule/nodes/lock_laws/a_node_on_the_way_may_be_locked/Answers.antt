use Rattle.floor_laws.proofs.rule.nodes.LockEvents.{going_down}
use Rattle.floor_laws.proofs.rule.nodes.lock_laws.a_node_on_the_way_may_be_locked.Goals as goal

pub returns : goal.returns
returns k nodes p lim log f tree core i a n c both may free = going_down nodes p lim log f tree core both i a n c may free
