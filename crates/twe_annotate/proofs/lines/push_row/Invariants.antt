use Rattle.std.proofs.Common.{◌≡◌, ◌≤◌, ◌++◌, drop}
use Rattle.twe_annotate.specs.Texts.{row_lines}
use Rattle.twe_annotate.proofs.lines.push_row.Given as goal

-- the lines so far, with those of what is left
abbrev pub invariant-loop-item : goal.invariant-loop-item
invariant-loop-item l = record {
  few : l.at ≤ l.item-index;
  rest : l.text ++ row_lines l.regions l.first l.its (drop l.item-index l.items) (drop l.at l.tasks)
      ≡ l.fn.text ++ row_lines l.regions l.first l.its l.items l.tasks;
}
