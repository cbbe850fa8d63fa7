use Rattle.floor_laws.proofs.rule.nodes.LockEvents.{entering}
use Rattle.floor_laws.proofs.rule.nodes.lock_laws.the_root_may_be_locked.Goals as goal

pub returns : goal.returns
returns k nodes p lim log f tree core i a both may free = entering nodes p lim log f tree core both i a may free
