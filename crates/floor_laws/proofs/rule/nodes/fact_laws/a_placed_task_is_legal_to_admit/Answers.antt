use Rattle.floor_laws.proofs.rule.nodes.Facts.{admissible}
use Rattle.floor_laws.proofs.rule.nodes.fact_laws.a_placed_task_is_legal_to_admit.Goals as goal

pub returns : goal.returns
returns k nodes p lim log f tree core i t both placed = admissible nodes p lim log f tree core both i t placed
