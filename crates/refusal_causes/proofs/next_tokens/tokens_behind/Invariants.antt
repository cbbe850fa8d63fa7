use Rattle.std.proofs.Common.{take}
use Rattle.refusal_causes.specs.NextTokens.{AreNextAmong, every_token}
use Rattle.refusal_causes.proofs.next_tokens.tokens_behind.Given as goal

-- the tokens so far are tried
abbrev pub invariant-loop-token : goal.invariant-loop-token
invariant-loop-token l = AreNextAmong l.before (take l.token-index every_token) l.found
