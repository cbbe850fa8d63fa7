use Rattle.floor_laws.proofs.rule.nodes.LockEvents.{ending}
use Rattle.floor_laws.proofs.rule.nodes.lock_laws.an_activity_may_end.Goals as goal

pub returns : goal.returns
returns k nodes p lim log f tree core i a both active stage = ending nodes p lim log f tree core both i a active stage
