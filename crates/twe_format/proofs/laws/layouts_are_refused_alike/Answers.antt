use Rattle.twe_format.proofs.laws.layouts_are_refused_alike.Goals as goal

pub returns-clause-laid : goal.returns-clause-laid
returns-clause-laid c = c.layouts_keep_refusals.ensures.laid

pub returns-clause-text : goal.returns-clause-text
returns-clause-text c = c.layouts_keep_refusals.ensures.text
