use Rattle.std.proofs.Common.{◌≡◌}
use Rattle.twe_frontend.specs.Lines.{after_lines}
use Rattle.twe_frontend.proofs.lines.after_lines.Given as goal

-- so many lines are passed over
abbrev pub invariant-loop : goal.invariant-loop
invariant-loop l = l.rest ≡ after_lines l.counter l.text
