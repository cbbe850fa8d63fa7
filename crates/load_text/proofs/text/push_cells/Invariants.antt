use Rattle.std.proofs.Common.{◌≡◌, ◌++◌}
use Rattle.load_text.specs.Text.{each_below, cell_lines}
use Rattle.load_text.proofs.text.push_cells.Given as goal

abbrev pub invariant-loop-i : goal.invariant-loop-i
invariant-loop-i l = l.text ≡ l.initial.text ++ each_below cell_lines l.i
