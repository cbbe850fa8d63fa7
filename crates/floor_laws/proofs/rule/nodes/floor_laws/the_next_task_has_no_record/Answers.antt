use Rattle.floor_laws.proofs.rule.nodes.Facts.{next_unplaced}
use Rattle.floor_laws.proofs.rule.nodes.floor_laws.the_next_task_has_no_record.Goals as goal

pub returns : goal.returns
returns k nodes p lim log f tree core i r both few among = next_unplaced nodes p lim log f tree core both i r few among
