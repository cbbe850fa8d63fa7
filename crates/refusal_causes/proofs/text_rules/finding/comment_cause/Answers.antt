use Rattle.refusal_causes.proofs.text_rules.Causing.{comment_is}
use Rattle.refusal_causes.proofs.text_rules.finding.comment_cause.Goals as goal

-- the comment has no end
pub returns : goal.returns
returns c = comment_is c.args.text.now c.args.place c.requires
