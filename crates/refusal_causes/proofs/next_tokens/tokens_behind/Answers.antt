use Rattle.std.proofs.Common.{[], sym, subst}
use Rattle.refusal_causes.specs.NextTokens.{AreNextAmong}
use Rattle.refusal_causes.proofs.next_tokens.tokens_behind.Goals as goal

-- none is tried yet
pub loop-token-init : goal.loop-token-init
loop-token-init c = subst (AreNextAmong c.args.before.now []) (sym c.new-found.ensures) AreNextAmong.none
