use Rattle.name_check.proofs.cell_limits.Overs.{GoesOver-once}
use Rattle.name_check.proofs.cell_limits.laws.a_declaration_goes_over_alone.Goals as goal

pub returns : goal.returns
returns c = GoesOver-once
