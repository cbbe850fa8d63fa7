use Rattle.moved_places.proofs.NameRules.{names-alike}
use Rattle.moved_places.proofs.laws.name_rules_move_with_places.Goals as goal

pub returns : goal.returns
returns c from to one other same rule place fails = names-alike from to one other same rule place fails
