use Rattle.std.proofs.Common.{length}
use Rattle.summary_comparing.proofs.chain_lines.+push_need_lines.Given as goal

-- each call is for fewer effects
abbrev pub decreases-push_need_lines : goal.decreases-push_need_lines
decreases-push_need_lines l = length l.effects.now
