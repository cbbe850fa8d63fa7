use Rattle.floor_laws.proofs.rule.nodes.RecordEvents.{placing_child}
use Rattle.floor_laws.proofs.rule.nodes.record_laws.a_childs_record_may_be_placed.Goals as goal

pub returns : goal.returns
returns k nodes p lim log f tree core i a c e done content both may = placing_child nodes p lim log f tree core both i a c e done content may
