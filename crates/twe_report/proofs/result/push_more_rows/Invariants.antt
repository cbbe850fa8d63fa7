use Rattle.std.proofs.Common.{◌≡◌, ◌++◌, ◌+◌, ◌-◌, ◌*◌}
use Rattle.twe_report.specs.Texts.{more_rows}
use Rattle.twe_report.proofs.result.push_more_rows.Given as goal

-- what is written and what is left are all
abbrev pub invariant-loop : goal.invariant-loop
invariant-loop l = record {
  all : l.text ++ more_rows l.values l.at (l.rows - l.counter) l.columns ≡ l.fn.text ++ more_rows l.values l.cell l.rows l.columns;
  place : l.at ≡ l.cell + l.counter * l.columns;
}
