use Rattle.std.proofs.Common.{length}
use Rattle.summary_comparing.proofs.said_match.+are_said_as.Given as goal

-- each call is for fewer elements
abbrev pub decreases-are_said_as : goal.decreases-are_said_as
decreases-are_said_as l = length l.elems.now
