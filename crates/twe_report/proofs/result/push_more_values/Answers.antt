use Rattle.std.proofs.Common.{◌++◌, ◌∙◌, List, ℕ, ap, arith}
use Rattle.twe_report.specs.Texts.{value_text}
use Rattle.twe_report.proofs.Steps.{value_written}
use Rattle.twe_report.proofs.result.push_more_values.Goals as goal

pub loop-at-preserved : goal.loop-at-preserved
loop-at-preserved c =
    value_written c.args.values.now _ _ (omega arith) c.loop-at.text _ _ c.loop-at.at
    (c.in_ok-push_value.ensures ∙ ap (λ (t : List ℕ). t ++ value_text c.args.values.now c.loop-at.at) c.in_ok-push_all.ensures.ok) c.loop-at.invariant
