use Rattle.std.proofs.Common.{◌≡◌, sym, ap, ◌∙◌, subst}
use Rattle.twe_frontend.specs.declared.read.FrontFail.{FrontFail}
use Rattle.twe_io.specs.declared.status.Status.TheVariants.{Refused}
use Rattle.twe_io.specs.Answers.{on_err}
use Rattle.twe_infer.specs.Answers.{InferDue}
use Rattle.twe_frontend.specs.meaning.Reading.{ReadingHasCause}
use Rattle.twe_infer.proofs.answering.answer_text.Goals as goal

-- the refusal of the text
pub returns-in_ok-refusal_text-in-Err-Refused : goal.returns-in_ok-refusal_text-in-Err-Refused
returns-in_ok-refusal_text-in-Err-Refused c =
    subst (InferDue c.args.text.now) (sym (c.on_err.ensures ∙ ap (on_err Refused) c.in_ok-refusal_text-in-Err-Refused.ensures))
    (InferDue.refused c.in-Err-Refused.refusal (subst (λ (fail : FrontFail). ReadingHasCause c.args.text.now fail) c.in-Err-Refused.field-0-is c.in-Err-Refused.ensures.refused))
