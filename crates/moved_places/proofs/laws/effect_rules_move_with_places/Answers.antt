use Rattle.moved_places.proofs.Rules.{fails-alike}
use Rattle.moved_places.proofs.laws.effect_rules_move_with_places.Goals as goal

pub returns : goal.returns
returns c from to one other same rule place fails = fails-alike from to one other same rule place fails
