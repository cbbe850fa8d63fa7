use Rattle.std.proofs.Common.{◌≡◌, ◌++◌, drop}
use Rattle.run_notes.specs.VariablesShown.{variables_shown}
use Rattle.run_notes.proofs.variables_shown.variables_shown.Given as goal

-- what was added so far, with what the variables hold that are left
abbrev pub invariant-loop-variable : goal.invariant-loop-variable
invariant-loop-variable l =
    l.texts ++ variables_shown (drop l.variable-index l.variables) l.left ≡ variables_shown l.variables l.values
