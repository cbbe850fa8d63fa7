use Rattle.std.proofs.Common.{◌≡◌, ◌++◌, drop, map}
use Rattle.run_notes.specs.BodyVariables.{parameter}
use Rattle.run_notes.proofs.body_variables.add_parameters.Given as goal

-- the parameters so far, with those that are left
abbrev pub invariant-loop-name : goal.invariant-loop-name
invariant-loop-name l = l.variables ++ map parameter (drop l.name-index l.names) ≡ l.fn.variables ++ map parameter l.names
