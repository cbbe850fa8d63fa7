use Rattle.std.proofs.Common.{length}
use Rattle.summary_comparing.proofs.same_effect.+are_same_elems.Given as goal

-- each call is for fewer elements
abbrev pub decreases-are_same_elems : goal.decreases-are_same_elems
decreases-are_same_elems l = length l.first.now
