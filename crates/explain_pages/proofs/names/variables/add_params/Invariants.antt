use Rattle.std.proofs.Common.{◌≡◌, ◌++◌, drop}
use Rattle.explain_pages.proofs.names.variables.add_params.Given as goal

-- the names so far, with those of what is left
abbrev pub invariant-loop-name : goal.invariant-loop-name
invariant-loop-name l = l.names ++ drop l.name-index l.params ≡ l.fn.names ++ l.params
