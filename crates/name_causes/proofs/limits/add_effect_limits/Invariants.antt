use Rattle.std.proofs.Common.{◌≡◌, ◌++◌, drop}
use Rattle.std.specs.List.{flat_map}
use Rattle.name_causes.specs.Others.{needs_of_clause}
use Rattle.name_causes.proofs.limits.add_effect_limits.Given as goal

-- the needs so far and those of what is left are those of all
abbrev pub invariant-loop-clause : goal.invariant-loop-clause
invariant-loop-clause l = l.needs ++ flat_map needs_of_clause (drop l.clause-index l.clauses) ≡ l.fn.needs ++ flat_map needs_of_clause l.clauses
