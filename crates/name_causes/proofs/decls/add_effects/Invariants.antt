use Rattle.std.proofs.Common.{◌≡◌, ◌++◌, drop}
use Rattle.std.specs.List.{flat_map}
use Rattle.name_check.specs.Sites.{asks_of_clause}
use Rattle.name_causes.specs.Needs.{needs_of_asks}
use Rattle.name_causes.proofs.decls.add_effects.Given as goal

-- the needs so far and those of what is left are those of all
abbrev pub invariant-loop-clause : goal.invariant-loop-clause
invariant-loop-clause l =
    l.needs ++ needs_of_asks l.globals l.locals l.returns (flat_map asks_of_clause (drop l.clause-index l.clauses))
    ≡ l.fn.needs ++ needs_of_asks l.globals l.locals l.returns (flat_map asks_of_clause l.clauses)
