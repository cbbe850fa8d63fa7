use Rattle.std.proofs.Common.{◌∙◌, sym}
use Rattle.refusal_causes.proofs.Early.{text_refused}
use Rattle.refusal_causes.proofs.explained.unread_at.Goals as goal

-- a rule of tokens
pub returns-in_ok-tokens : goal.returns-in_ok-tokens
returns-in_ok-tokens c = (
  text_refused c.args.text.now c.args.refusal.rule c.args.refusal.place c.requires,
  sym c.is_of_tokens.ensures ∙ c.if-is_of_tokens.true,
  c.in_ok-tokens.ensures,
)

-- another rule of the text
pub unread_early-requires-clause-early : goal.unread_early-requires-clause-early
unread_early-requires-clause-early c = sym c.is_of_tokens.ensures ∙ c.if-is_of_tokens.false
