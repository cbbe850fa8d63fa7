use Rattle.refusal_causes.proofs.text_rules.Ways as ways
use Rattle.refusal_causes.proofs.text_rules.end.one_answer.Goals as goal

-- the lexemes that end at the place are the same
pub returns : goal.returns
returns c text place places others one other = ways.one_answer text place places others one other
