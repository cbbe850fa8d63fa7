use Rattle.std.proofs.Common.{length}
use Rattle.effect_infer.proofs.crowd.+is_spread_out.Given as goal

-- each call is for fewer needs
abbrev pub decreases-is_spread_out : goal.decreases-is_spread_out
decreases-is_spread_out l = length l.needs.now
