use Rattle.std.proofs.Common.{length}
use Rattle.summary_comparing.proofs.search.+same_values.Given as goal

-- each call is for fewer values
abbrev pub decreases-same_values : goal.decreases-same_values
decreases-same_values l = length l.first.now
