use Rattle.std.proofs.Common.{◌≡◌, ◌<◌, ◌++◌, ℕ, List, length, map}
use Rattle.span_profile.specs.declared.heaviest_chain.key.Key.TheVariants.{Task}
use Rattle.held_span.specs.inner.Walking.{IsWalk}
use Rattle.held_span.proofs.ways.Ways.push_way.Given as goal

-- the tasks that were passed begin the walk, whose rest begins here
abbrev pub invariant-walking : goal.invariant-walking
invariant-walking l = record {
  there : l.at < length l.self.makers;
  passed : (tasks : List ℕ) × (l.keys ≡ l.initial.keys ++ map (λ task. Task task) tasks)
      × ((others : List ℕ) → IsWalk l.self l.s l.at others → IsWalk l.self l.s l.t (tasks ++ others));
}

abbrev pub decreases-walking : goal.decreases-walking
decreases-walking l = l.at
