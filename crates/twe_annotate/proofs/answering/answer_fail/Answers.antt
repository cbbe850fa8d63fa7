use Rattle.std.proofs.Common.{subst}
use Rattle.twe_frontend.specs.declared.read.FrontFail.{FrontFail}
use Rattle.twe_frontend.specs.meaning.Reading.{ReadingHasCause}
use Rattle.twe_annotate.proofs.answering.answer_fail.Goals as goal

-- the text is refused
pub answer_refusal-requires : goal.answer_refusal-requires
answer_refusal-requires c = subst (λ (fail : FrontFail). ReadingHasCause c.args.text.now fail) c.in-Refused.is c.requires
