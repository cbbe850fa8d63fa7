use Rattle.layout_refusals.proofs.Refused.{refused_alike}
use Rattle.layout_refusals.proofs.laws.same_tokens_are_refused_alike.Goals as goal

pub returns : goal.returns
returns c text other tree its_tree parsed also same rule place refused = refused_alike c.one_tree.ensures text other tree its_tree parsed also same rule place refused
