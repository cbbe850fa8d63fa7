use Rattle.twe_draw.specs.picture.inner.Best.{IsBest}
use Rattle.twe_draw.proofs.picture.best.best_left.Given as goal

-- the best of those up to here
abbrev pub invariant-loop-task : goal.invariant-loop-task
invariant-loop-task l = IsBest l.works l.shown l.task l.best
