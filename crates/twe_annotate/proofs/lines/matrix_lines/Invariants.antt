use Rattle.std.proofs.Common.{◌≡◌, ◌≤◌, ◌++◌, drop}
use Rattle.twe_annotate.specs.Texts.{matrix_lines}
use Rattle.twe_annotate.proofs.lines.matrix_lines.Given as goal

-- the lines so far, with those of what is left
abbrev pub invariant-loop-place : goal.invariant-loop-place
invariant-loop-place l = record {
  few : l.at ≤ l.place;
  rest : l.text ++ matrix_lines l.regions (drop l.place l.items) (drop l.at l.tasks) ≡ matrix_lines l.regions l.items l.tasks;
}
