use Rattle.std.proofs.Common.{◌≡◌, ◌++◌, drop, map}
use Rattle.summary_texts.specs.inner.LineClauses.{line_path}
use Rattle.summary_texts.proofs.clauses.clause_paths.Given as goal

-- the paths so far, with those of what is left
abbrev pub invariant-loop-path : goal.invariant-loop-path
invariant-loop-path l = l.made ++ map (line_path l.regions l.params) (drop l.path-index l.paths) ≡ map (line_path l.regions l.params) l.paths
