use Rattle.std.proofs.Common.{◌≡◌, ◌++◌, take, map}
use Rattle.twe_ast.specs.declared.path.Path.{Path}
use Rattle.effect_sets.specs.declared.effects.Effect.{Effect}
use Rattle.twe_names.specs.PathMeaning.{path_meaning}
use Rattle.twe_names.proofs.decls.add_clause.Given as goal

-- the effects so far
abbrev pub invariant-loop-path : goal.invariant-loop-path
invariant-loop-path l =
    l.effects ≡ l.fn.effects ++ map (λ (path : Path). let made : Effect = record { write = l.clause.write; path = path_meaning l.globals l.params path } in made) (take l.path-index l.clause.paths)
