use Rattle.std.proofs.Common.{sym, subst}
use Rattle.refusal_causes.specs.NextTokens.{Decides}
use Rattle.refusal_causes.proofs.Early.{decided}
use Rattle.refusal_causes.proofs.next_tokens.is_beginning.Goals as goal

-- by the rule that fails first
pub returns : goal.returns
returns c =
    subst (Decides c.args.text.now) (sym c.is_of_end.ensures)
    (decided c.args.text.now c.args.refusal.rule c.args.refusal.place c.requires)
