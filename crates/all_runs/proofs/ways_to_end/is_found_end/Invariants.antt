use Rattle.flat_sched.specs.RunEnds.{outcome_of}
use Rattle.all_runs.proofs.Growing.{NoneEndsSo}
use Rattle.all_runs.proofs.ways_to_end.is_found_end.Given as goal

-- none of the earlier ones ends so
abbrev pub invariant-loop-earlier : goal.invariant-loop-earlier
invariant-loop-earlier l = NoneEndsSo l.ended l.earlier-index l.run.state (outcome_of l.run.end)
