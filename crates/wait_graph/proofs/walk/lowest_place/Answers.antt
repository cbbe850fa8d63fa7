-- The first of the lowest tasks stands at the place of the lowest.
use Rattle.std.proofs.Common.{◌≡◌, ℕ, nat_lt, length, subst, arith}
use Rattle.std.specs.List.{IsFirstBest}
use Rattle.wait_graph.proofs.TurnedLemmas.{lowest_place-first}
use Rattle.wait_graph.proofs.walk.lowest_place.Goals as goal

pub returns-clause-value : goal.returns-clause-value
returns-clause-value c =
    let tasks = c.args.tasks.now in
    let all : c.loop-i.i ≡ length tasks = omega arith in
    rw (lowest_place-first tasks c.loop-i.lowest (subst (λ (n : ℕ). IsFirstBest nat_lt tasks n c.loop-i.lowest) all c.loop-i.invariant))
