use Rattle.std.proofs.Common.{◌≡◌, ◌++◌, drop}
use Rattle.name_causes.specs.Others.{places_of_effects}
use Rattle.name_causes.proofs.limits.places_of_effects.Given as goal

-- the places so far and those of what is left are those of all
abbrev pub invariant-loop-clause : goal.invariant-loop-clause
invariant-loop-clause l = l.places ++ places_of_effects (drop l.clause-index l.clauses) ≡ places_of_effects l.clauses
