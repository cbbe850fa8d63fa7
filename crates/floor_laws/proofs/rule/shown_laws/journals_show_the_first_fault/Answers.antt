use Rattle.floor_laws.proofs.rule.FirstFaults.{first_fault_is}
use Rattle.floor_laws.proofs.rule.shown_laws.journals_show_the_first_fault.Goals as goal

pub returns : goal.returns
returns c p lim journal well legal = first_fault_is p lim well journal legal
