use Rattle.std.proofs.Common.{◌≡◌, ◌++◌, take}
use Rattle.twe_report.specs.Texts.{prints_text}
use Rattle.twe_report.proofs.result.push_prints.Given as goal

abbrev pub invariant-loop-number : goal.invariant-loop-number
invariant-loop-number l = l.text ≡ l.fn.text ++ prints_text (take l.number-index l.prints)
