use Rattle.span_profile.proofs.Linked.{each_has_reason}
use Rattle.span_profile.proofs.laws.each_link_has_a_reason.Goals as goal

pub returns : goal.returns
returns c = each_has_reason
