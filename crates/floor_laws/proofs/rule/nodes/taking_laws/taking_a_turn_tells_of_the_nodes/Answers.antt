use Rattle.floor_laws.proofs.rule.nodes.Takings.{children_placed_free, none_fresh, takes_clear}
use Rattle.floor_laws.proofs.rule.nodes.taking_laws.taking_a_turn_tells_of_the_nodes.Goals as goal

pub returns-clause-clear : goal.returns-clause-clear
returns-clause-clear k nodes p lim log f tree core i t turn both free taken known = takes_clear nodes p lim log f tree core both i t free turn known taken

pub returns-clause-fresh : goal.returns-clause-fresh
returns-clause-fresh k nodes p lim log f tree core i t r both free among = none_fresh nodes p lim log f tree core both i t free r among

pub returns-clause-children : goal.returns-clause-children
returns-clause-children k nodes p lim log f tree core i t both free = children_placed_free nodes p lim log f tree core both i t free
