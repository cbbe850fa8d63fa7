use Rattle.std.proofs.Common.{◌≡◌, ◌≤◌, ◌++◌, drop}
use Rattle.summary_comparing.specs.Counted.{counted_summaries}
use Rattle.summary_comparing.proofs.counted.counted_summaries.Given as goal

-- the summaries so far and those of what is left are those of all
abbrev pub invariant-loop-one : goal.invariant-loop-one
invariant-loop-one l = record {
  few : l.at ≤ l.one-index;
  rest : l.summaries ++ counted_summaries (drop l.one-index l.least) (drop l.at l.decls) ≡ counted_summaries l.least l.decls;
}
