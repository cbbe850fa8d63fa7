use Rattle.std.proofs.Common.{◌≡◌, ◌≤◌, ◌++◌, length, drop}
use Rattle.twe_format.specs.Differences.{differing}
use Rattle.twe_format.proofs.comparing.differing.Given as goal

-- what was written, with what differs between the lines that are left
abbrev pub invariant-loop-line : goal.invariant-loop-line
invariant-loop-line l = record {
  within : l.at ≤ length l.laid;
  differs : l.text ++ differing (drop l.line-index l.lines) (drop l.at l.laid) ≡ differing l.lines l.laid;
}
