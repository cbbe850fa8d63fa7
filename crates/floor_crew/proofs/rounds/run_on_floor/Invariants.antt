use Rattle.std.proofs.Common.{◌≡◌}
use Rattle.floor_crew.proofs.rounds.run_on_floor.Given as goal

-- the crew stays one of the program under the limits
abbrev pub invariant-rounds : goal.invariant-rounds
invariant-rounds g l = (l.crew.prog ≡ l.p) × (l.crew.lim ≡ l.fn.lim)
