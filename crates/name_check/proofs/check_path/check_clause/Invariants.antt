use Rattle.std.proofs.Common.{◌≡◌, drop}
use Rattle.std.specs.List.{flat_map}
use Rattle.name_check.specs.Sites.{asks_of_path}
use Rattle.name_check.specs.inner.Failures.{first_of_asks}
use Rattle.name_check.proofs.check_path.check_clause.Given as goal

-- the first so far and what is left give the first of all
abbrev pub invariant-loop-path : goal.invariant-loop-path
invariant-loop-path l =
    first_of_asks l.globals l.locals l.first (flat_map asks_of_path (drop l.path-index l.path-items)) ≡ first_of_asks l.globals l.locals l.fn.first (flat_map asks_of_path l.clause.paths)
