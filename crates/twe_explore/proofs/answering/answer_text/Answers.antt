use Rattle.std.proofs.Common.{sym, ap, ◌∙◌, subst}
use Rattle.twe_frontend.specs.Reads.{HasCause}
use Rattle.twe_frontend.specs.declared.read.FrontFail.{FrontFail}
use Rattle.twe_io.specs.declared.status.Status.TheVariants.{Refused}
use Rattle.twe_io.specs.Answers.{on_err}
use Rattle.twe_explore.specs.Answers.{ExploreDue}
use Rattle.twe_explore.proofs.answering.answer_text.Goals as goal

-- the refusal of the text
pub returns-in_ok-line-in-Err-Refused : goal.returns-in_ok-line-in-Err-Refused
returns-in_ok-line-in-Err-Refused c =
    subst (ExploreDue c.args.question.now c.args.text.now) (sym (c.on_err.ensures ∙ ap (on_err Refused) c.in_ok-line-in-Err-Refused.ensures))
    (ExploreDue.refused c.in-Err-Refused.refusal
    (subst (λ (fail : FrontFail). HasCause c.args.text.now fail) c.in-Err-Refused.field-0-is c.in-Err-Refused.ensures.refused))
