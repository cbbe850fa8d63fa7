-- The printed numbers of an execution.
use Rattle.std.specs.Prelude.{ℤ, List, ◌++◌}
use Rattle.determinism_laws.specs.declared.elision.progress.Progress.{Progress}

-- these numbers are printed after those before
abbrev pub with_prints : Progress → List ℤ → Progress
with_prints s prints = record s { prints = s.prints ++ prints }
