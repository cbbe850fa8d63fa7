use Rattle.floor_laws.proofs.rule.nodes.LockEvents.{giving_back}
use Rattle.floor_laws.proofs.rule.nodes.lock_laws.a_node_may_be_given_back.Goals as goal

pub returns : goal.returns
returns k nodes p lim log f tree core i a n others both may = giving_back nodes p lim log f tree core both i a n others may
