use Rattle.std.proofs.Common.{subst}
use Rattle.twe_lexer.specs.Front.{Hinders}
use Rattle.twe_lexer.specs.declared.lexeme.LexemeFail.{LexemeFail}
use Rattle.refusal_notes.specs.Spots.{EndsCut}
use Rattle.refusal_notes.proofs.spots.front_of.Goals as goal

-- a byte is not allowed
pub returns-in-Err-NotAllowed : goal.returns-in-Err-NotAllowed
returns-in-Err-NotAllowed c =
    EndsCut.not_allowed c.in-Err-NotAllowed.field-0-0
    (subst (λ (fail : LexemeFail). Hinders fail c.args.rest.now) c.in-Err-NotAllowed.field-0-is c.in-Err-NotAllowed.ensures.hindered)

-- a comment has no end
pub returns-in-Err-Unclosed : goal.returns-in-Err-Unclosed
returns-in-Err-Unclosed c =
    EndsCut.unclosed
    (subst (λ (fail : LexemeFail). Hinders fail c.args.rest.now) c.in-Err-Unclosed.field-0-is c.in-Err-Unclosed.ensures.hindered)
