use Rattle.floor_laws.proofs.rule.nodes.LockEvents.{stopping}
use Rattle.floor_laws.proofs.rule.nodes.lock_laws.an_activity_may_stop.Goals as goal

pub returns : goal.returns
returns k nodes p lim log f tree core i a both active = stopping nodes p lim log f tree core both i a active
