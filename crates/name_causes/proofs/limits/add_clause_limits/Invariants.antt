use Rattle.std.proofs.Common.{◌≡◌, ◌++◌, drop}
use Rattle.std.specs.List.{flat_map}
use Rattle.name_causes.specs.Others.{needs_of_path}
use Rattle.name_causes.proofs.limits.add_clause_limits.Given as goal

-- the needs so far and those of what is left are those of all
abbrev pub invariant-loop-path : goal.invariant-loop-path
invariant-loop-path l = l.needs ++ flat_map needs_of_path (drop l.path-index l.path-items) ≡ l.fn.needs ++ flat_map needs_of_path l.clause.paths
