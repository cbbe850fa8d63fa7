use Rattle.floor_laws.proofs.rule.nodes.OwnRecords.{fresh_there, own_fresh}
use Rattle.floor_laws.proofs.rule.nodes.fact_laws.a_node_has_what_its_worker_has_placed.Goals as goal

pub returns-clause-there : goal.returns-clause-there
returns-clause-there k nodes p lim log f tree core i n content r both has among node = fresh_there nodes p lim log f tree core both i n content has r among node

pub returns-clause-own : goal.returns-clause-own
returns-clause-own k nodes p lim log f tree core i n content r turn both has among held to_place = own_fresh nodes p lim log f tree core both i n content has r turn among held to_place
