use Rattle.run_notes.proofs.Numbers.{declared_names, names_of_declared}
use Rattle.run_notes.proofs.laws.shown_names_are_those_of_the_variables.Goals as goal

pub returns : goal.returns
returns c = record { numbered = declared_names; same = names_of_declared }
