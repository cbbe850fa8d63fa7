use Rattle.std.proofs.Common.{◌≡◌, drop}
use Rattle.std.specs.List.{flat_map, slice_get}
use Rattle.std.specs.Option.{option_map}
use Rattle.twe_ast.specs.declared.item.Clause.{Clause}
use Rattle.twe_ast.specs.declared.path.Path.{Path}
use Rattle.name_check.specs.OtherFailures.{path_over_limit}
use Rattle.name_check.proofs.limits.path_over_limit.Given as goal

-- the 9th path is among those of the clauses that are left
abbrev pub invariant-loop-clause : goal.invariant-loop-clause
invariant-loop-clause l =
    option_map (λ (path : Path). path.place) (slice_get (flat_map (λ (clause : Clause). clause.paths) (drop l.clause-index l.clauses)) l.left)
    ≡ path_over_limit (flat_map (λ (clause : Clause). clause.paths) l.clauses)
