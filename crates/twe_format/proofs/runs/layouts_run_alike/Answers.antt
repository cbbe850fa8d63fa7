use Rattle.twe_format.proofs.RunAlike.{same_programs}
use Rattle.twe_format.proofs.runs.layouts_run_alike.Goals as goal

pub returns-clause-runs : goal.returns-clause-runs
returns-clause-runs c = λ text laid p q accepted in_layout its.
    c.programs_run_alike.ensures p q (same_programs c.layouts_are_accepted_alike.ensures.laid c.one_program.ensures text laid p q accepted in_layout its)

pub returns-clause-result : goal.returns-clause-result
returns-clause-result c = λ text laid p q last its accepted in_layout its_accepted.
    c.results_name_no_places.ensures p q last its
    (same_programs c.layouts_are_accepted_alike.ensures.laid c.one_program.ensures text laid p q accepted in_layout its_accepted)
