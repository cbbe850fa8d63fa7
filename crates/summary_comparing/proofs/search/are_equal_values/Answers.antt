use Rattle.std.proofs.Common.{sym, ◌∙◌}
use Rattle.summary_comparing.proofs.Elements.{same-values-eq}
use Rattle.summary_comparing.proofs.search.are_equal_values.Goals as goal

-- each is equal to its fellow
pub returns : goal.returns
returns c = λ h. same-values-eq c.args.first.now c.args.second.now (sym c.same_values.ensures ∙ h)
