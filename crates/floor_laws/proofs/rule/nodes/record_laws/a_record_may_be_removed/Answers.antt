use Rattle.floor_laws.proofs.rule.nodes.RecordEvents.{taking_out}
use Rattle.floor_laws.proofs.rule.nodes.record_laws.a_record_may_be_removed.Goals as goal

pub returns : goal.returns
returns k nodes p lim log f tree core i a t e done before content fresh both may = taking_out nodes p lim log f tree core both i a t e done before content fresh may
