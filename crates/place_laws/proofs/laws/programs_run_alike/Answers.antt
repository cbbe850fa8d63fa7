use Rattle.std.proofs.Common.{sym}
use Rattle.place_laws.proofs.Journals.{runs_as}
use Rattle.place_laws.proofs.laws.programs_run_alike.Goals as goal

pub returns : goal.returns
returns c = λ p q same lim journal. (runs_as p q lim journal same, runs_as q p lim journal (sym same))
