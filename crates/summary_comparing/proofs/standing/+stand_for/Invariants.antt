use Rattle.std.proofs.Common.{length}
use Rattle.summary_comparing.proofs.standing.+stand_for.Given as goal

-- each call is for fewer elements
abbrev pub decreases-stand_for : goal.decreases-stand_for
decreases-stand_for l = length l.elems.now
