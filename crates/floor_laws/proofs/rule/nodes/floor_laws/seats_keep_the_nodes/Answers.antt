use Rattle.floor_laws.proofs.rule.nodes.SeatSteps.{joins, splits}
use Rattle.floor_laws.proofs.rule.nodes.floor_laws.seats_keep_the_nodes.Goals as goal

pub returns-clause-split : goal.returns-clause-split
returns-clause-split k nodes p lim log f tree core i worker keep idle = splits nodes p lim log f tree core keep i worker idle

pub returns-clause-join : goal.returns-clause-join
returns-clause-join k nodes p lim log f tree core i j keep other = joins nodes p lim log f tree core keep i j other
