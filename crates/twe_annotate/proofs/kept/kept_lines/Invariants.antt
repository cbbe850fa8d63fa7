use Rattle.std.proofs.Common.{◌≡◌, ◌≤◌, ◌++◌, drop}
use Rattle.twe_annotate.specs.Kept.{kept_lines}
use Rattle.twe_annotate.proofs.kept.kept_lines.Given as goal

-- the lines so far, with those of what is left
abbrev pub invariant-loop-item : goal.invariant-loop-item
invariant-loop-item l = record {
  few : l.at ≤ l.item-index;
  rest : l.text ++ kept_lines (drop l.at l.each) (drop l.item-index l.items) ≡ kept_lines l.each l.items;
}
