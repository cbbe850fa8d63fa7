use Rattle.all_runs.specs.Explored.{IsClosedBelow, IsExploration}
use Rattle.all_runs.proofs.exploring.Exploration.explore.Given as goal

-- the moves of the runs before this place were taken
abbrev pub invariant-loop-at : goal.invariant-loop-at
invariant-loop-at l = record {
  explored : IsExploration l.p l.lim l.self.going l.self.ended;
  closed : IsClosedBelow l.p l.lim l.self.going l.self.ended l.at;
}
