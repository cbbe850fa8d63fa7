use Rattle.floor_laws.proofs.rule.nodes.LockEvents.{giving_parent}
use Rattle.floor_laws.proofs.rule.nodes.lock_laws.a_parent_may_be_unlocked.Goals as goal

pub returns : goal.returns
returns k nodes p lim log f tree core i a n c stage both may = giving_parent nodes p lim log f tree core both i a n c stage may
