use Rattle.std.proofs.Common.{sym, ◌∙◌}
use Rattle.effect_infer.proofs.RowItems.{same-calls}
use Rattle.effect_infer.proofs.callers.are_equal.Goals as goal

pub returns : goal.returns
returns c = λ h. same-calls c.args.first.now c.args.second.now (sym c.are_alike.ensures ∙ h)
