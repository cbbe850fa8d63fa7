use Rattle.refusal_causes.specs.NextTokens.{BeginsAProgram}
use Rattle.refusal_causes.proofs.next_tokens.is_whole.Goals as goal

-- by its tree
pub returns : goal.returns
returns c = BeginsAProgram.whole c.args.tree.now c.requires
