use Rattle.std.proofs.Common.{◌≡◌, ◌++◌, drop}
use Rattle.std.specs.List.{flat_map}
use Rattle.twe_names.specs.PathMeaning.{effects_of_clause}
use Rattle.twe_names.proofs.decls.summary.Given as goal

-- the effects so far and those of what is left are those of all clauses
abbrev pub invariant-loop-clause : goal.invariant-loop-clause
invariant-loop-clause l =
    l.effects ++ flat_map (effects_of_clause l.globals l.params) (drop l.clause-index l.clauses) ≡ flat_map (effects_of_clause l.globals l.params) l.clauses
