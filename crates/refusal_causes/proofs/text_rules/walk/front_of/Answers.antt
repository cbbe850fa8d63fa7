use Rattle.std.proofs.Common.{subst}
use Rattle.twe_lexer.specs.Front.{Hinders}
use Rattle.twe_lexer.specs.declared.lexeme.LexemeFail.{LexemeFail}
use Rattle.refusal_causes.specs.text_rules.inner.Walked.{IsHindered}
use Rattle.refusal_causes.proofs.text_rules.walk.front_of.Goals as goal

-- a byte is not allowed
pub returns-in-Err-NotAllowed : goal.returns-in-Err-NotAllowed
returns-in-Err-NotAllowed c =
    IsHindered.stops c.in-Err-NotAllowed.field-0-0
    (subst (λ (fail : LexemeFail). Hinders fail c.args.rest.now) c.in-Err-NotAllowed.field-0-is c.in-Err-NotAllowed.ensures.hindered)
