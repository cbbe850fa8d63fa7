use Rattle.std.proofs.Common.{◌≡◌, drop}
use Rattle.run_notes.specs.BodyVariables.{body_variables_at}
use Rattle.run_notes.proofs.body_variables.body_variables_at.Given as goal

-- no declaration before this one is at the place
abbrev pub invariant-loop-item : goal.invariant-loop-item
invariant-loop-item l = body_variables_at l.place l.declared (drop l.item-index l.items) ≡ body_variables_at l.place l.declared l.items
