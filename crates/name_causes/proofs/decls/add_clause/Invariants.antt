use Rattle.std.proofs.Common.{◌≡◌, ◌++◌, drop}
use Rattle.std.specs.List.{flat_map}
use Rattle.name_check.specs.Sites.{asks_of_path}
use Rattle.name_causes.specs.Needs.{needs_of_asks}
use Rattle.name_causes.proofs.decls.add_clause.Given as goal

-- the needs so far and those of what is left are those of all
abbrev pub invariant-loop-path : goal.invariant-loop-path
invariant-loop-path l =
    l.needs ++ needs_of_asks l.globals l.locals l.returns (flat_map asks_of_path (drop l.path-index l.path-items))
    ≡ l.fn.needs ++ needs_of_asks l.globals l.locals l.returns (flat_map asks_of_path l.clause.paths)
