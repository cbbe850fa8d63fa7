use Rattle.std.proofs.Common.{◌≡◌, ◌≤◌, ◌++◌, drop}
use Rattle.twe_infer.specs.Texts.{summary_lines_of}
use Rattle.twe_infer.proofs.text.lines_of.Given as goal

-- the lines so far, with those of what is left
abbrev pub invariant-loop-item : goal.invariant-loop-item
invariant-loop-item l = record {
  few : l.at ≤ l.item-index;
  rest : l.text ++ summary_lines_of l.regions (drop l.at l.summaries) (drop l.item-index l.items) ≡ summary_lines_of l.regions l.summaries l.items;
}
