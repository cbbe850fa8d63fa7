use Rattle.std.proofs.Common.{◌≡◌, ◌+◌, drop}
use Rattle.twe_frontend.specs.Lines.{line_length}
use Rattle.twe_frontend.proofs.lines.line_length.Given as goal

-- no byte 10 stands before this place
abbrev pub invariant-loop-i : goal.invariant-loop-i
invariant-loop-i l = line_length l.text ≡ l.i + line_length (drop l.i l.text)
