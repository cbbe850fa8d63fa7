use Rattle.std.proofs.Common.{◌≡◌, ◌≤◌, ◌+◌, ◌++◌, length, drop}
use Rattle.twe_format.specs.Lines.{lines_from, numbered_lines}
use Rattle.twe_format.proofs.lines.numbered_lines.Given as goal

-- the lines so far, with those of what is left
abbrev pub invariant-loop-byte : goal.invariant-loop-byte
invariant-loop-byte l = record {
  rest : l.lines ++ lines_from l.line (drop l.byte-index l.text) ≡ numbered_lines l.text;
  number : l.line.number ≤ l.byte-index + 1;
  before : l.line.before + length l.line.bytes ≤ l.byte-index;
}
