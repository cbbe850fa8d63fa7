use Rattle.std.proofs.Common.{◌≡◌, drop}
use Rattle.explain_pages.specs.names.Variables.{variables_at}
use Rattle.explain_pages.proofs.names.variables.variables_at.Given as goal

-- no declaration before this one is at the place
abbrev pub invariant-loop-item : goal.invariant-loop-item
invariant-loop-item l = variables_at (drop l.item-index l.items) l.place ≡ variables_at l.items l.place
