use Rattle.floor_laws.proofs.rule.nodes.Facts.{stands_placed}
use Rattle.floor_laws.proofs.rule.nodes.fact_laws.records_stand_at_their_places.Goals as goal

pub returns : goal.returns
returns k nodes p lim log f tree core r both among = stands_placed nodes p lim log f tree core both r among
