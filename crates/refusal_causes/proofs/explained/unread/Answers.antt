use Rattle.std.proofs.Common.{subst}
use Rattle.twe_frontend.specs.Reads.{TreeHasCause}
use Rattle.refusal_causes.proofs.explained.unread.Goals as goal

-- the first failure of a rule of the text
pub unread_at-requires : goal.unread_at-requires
unread_at-requires c = subst (TreeHasCause c.args.text.now) c.in-Refused.is c.requires
