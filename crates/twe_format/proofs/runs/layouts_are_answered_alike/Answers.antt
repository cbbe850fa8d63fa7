use Rattle.twe_format.proofs.RunAlike.{laid_answered, text_answered}
use Rattle.twe_format.proofs.runs.layouts_are_answered_alike.Goals as goal

pub returns-clause-laid : goal.returns-clause-laid
returns-clause-laid c = laid_answered c.layouts_are_accepted_alike.ensures.laid c.runs_are_answered_alike.ensures

pub returns-clause-text : goal.returns-clause-text
returns-clause-text c = text_answered c.layouts_are_accepted_alike.ensures.laid c.runs_are_answered_alike.ensures
