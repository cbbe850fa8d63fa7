use Rattle.std.proofs.Common.{◌++◌, ◌∙◌, List, ℕ, ap, arith}
use Rattle.std.proofs.Math.Nat.{add-mul}
use Rattle.twe_report.specs.Texts.{row_text}
use Rattle.twe_report.proofs.Steps.{row_written}
use Rattle.twe_report.proofs.result.push_more_rows.Goals as goal

pub loop-preserved : goal.loop-preserved
loop-preserved c = record {
  all = row_written c.args.values.now _ _ (omega arith) c.loop.text _ _ c.loop.at c.args.columns
      (c.in_ok-push_row.ensures ∙ ap (λ (t : List ℕ). t ++ row_text c.args.values.now c.loop.at c.args.columns) c.in_ok-push_all.ensures.ok) c.loop.invariant.all;
  place = omega (arith, c.loop.invariant.place, add-mul c.loop.counter 1 c.args.columns);
}
