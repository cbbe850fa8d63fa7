use Rattle.std.proofs.Common.{◌≡◌, ◌+◌, drop}
use Rattle.text_answers.specs.inner.FirstLine.{line_length}
use Rattle.text_answers.proofs.input.first_line.Given as goal

-- no byte 10 stands before this place
abbrev pub invariant-loop-i : goal.invariant-loop-i
invariant-loop-i l = line_length l.text ≡ l.i + line_length (drop l.i l.text)
