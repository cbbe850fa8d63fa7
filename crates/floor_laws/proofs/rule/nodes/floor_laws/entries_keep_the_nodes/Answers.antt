use Rattle.floor_laws.proofs.rule.nodes.EntryCases.{entering}
use Rattle.floor_laws.proofs.rule.nodes.floor_laws.entries_keep_the_nodes.Goals as goal

pub returns : goal.returns
returns k nodes p lim log f tree core i t turn frame stop both may placed = entering nodes p lim log f tree core both i t turn frame stop may placed
