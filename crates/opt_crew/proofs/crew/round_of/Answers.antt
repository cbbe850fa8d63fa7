use Rattle.opt_crew.proofs.crew.round_of.Goals as goal

-- a run that can go on has a legal move
pub returns-in_default-clause-longer : goal.returns-in_default-clause-longer
returns-in_default-clause-longer g c = λ unfinished. absurd (c.in_default.ensures.none unfinished.2.0 unfinished.2.1)
