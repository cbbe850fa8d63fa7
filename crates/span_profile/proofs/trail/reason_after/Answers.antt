use Rattle.span_profile.proofs.trail.reason_after.Goals as goal

-- the tasks do not tell it
pub returns-in-None : goal.returns-in-None
returns-in-None c = λ p are a b e l m. c.reason_by_paths.ensures p are a b e m (c.in-None.ensures.untold a b l e.task e.taken)
