use Rattle.std.proofs.Common.{◌≡◌, ◌++◌}
use Rattle.load_text.specs.Text.{each_below, start_line}
use Rattle.load_text.proofs.text.push_starts.Given as goal

abbrev pub invariant-loop-i : goal.invariant-loop-i
invariant-loop-i l = l.text ≡ l.initial.text ++ each_below start_line l.i
