use Rattle.floor_laws.proofs.rule.nodes.RecordEvents.{placing}
use Rattle.floor_laws.proofs.rule.nodes.record_laws.a_record_may_be_placed.Goals as goal

pub returns : goal.returns
returns k nodes p lim log f tree core i a t e done content both may = placing nodes p lim log f tree core both i a t e done content may
