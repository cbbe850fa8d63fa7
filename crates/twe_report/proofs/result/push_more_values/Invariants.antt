use Rattle.std.proofs.Common.{◌≡◌, ◌++◌, ◌+◌, ◌-◌}
use Rattle.twe_report.specs.Texts.{more_values}
use Rattle.twe_report.proofs.result.push_more_values.Given as goal

-- what is written and what is left are all
abbrev pub invariant-loop-at : goal.invariant-loop-at
invariant-loop-at l = l.text ++ more_values l.values l.at ((l.cell + l.count) - l.at) ≡ l.fn.text ++ more_values l.values l.cell l.count
