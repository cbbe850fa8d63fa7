use Rattle.std.proofs.Common.{subst}
use Rattle.twe_frontend.specs.declared.read.FrontFail.{FrontFail}
use Rattle.twe_frontend.specs.meaning.Reading.{ReadingHasCause}
use Rattle.summary_texts.specs.Pasted.{IsOtherwise}
use Rattle.summary_texts.proofs.paste.read_again.Goals as goal

-- the text is refused
pub returns-in-Err-Refused-clause-refused : goal.returns-in-Err-Refused-clause-refused
returns-in-Err-Refused-clause-refused c =
    IsOtherwise.refused c.in-Err-Refused.field-0-0 (subst (λ (fail : FrontFail). ReadingHasCause c.args.written.now fail) c.in-Err-Refused.field-0-is c.in-Err-Refused.ensures.refused)
