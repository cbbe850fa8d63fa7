use Rattle.std.proofs.Common.{length}
use Rattle.summary_comparing.proofs.effect_order.+elems_precede.Given as goal

-- each call is for fewer elements
abbrev pub decreases-elems_precede : goal.decreases-elems_precede
decreases-elems_precede l = length l.first.now
