use Rattle.floor_laws.proofs.rule.nodes.LockEvents.{passing_by}
use Rattle.floor_laws.proofs.rule.nodes.lock_laws.a_bare_node_may_be_passed_by.Goals as goal

pub returns : goal.returns
returns k nodes p lim log f tree core i a n c stack done both may bare = passing_by nodes p lim log f tree core both i a n c stack done may bare
