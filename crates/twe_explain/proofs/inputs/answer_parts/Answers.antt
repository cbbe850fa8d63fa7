use Rattle.std.proofs.Common.{subst}
use Rattle.twe_frontend.specs.Reads.{HasCause}
use Rattle.twe_frontend.specs.declared.read.FrontFail.{FrontFail}
use Rattle.twe_explain.specs.Inputs.{PartsDue}
use Rattle.twe_explain.proofs.inputs.answer_parts.Goals as goal

-- the text is accepted
pub returns-in_ok-answer-in-Ok : goal.returns-in_ok-answer-in-Ok
returns-in_ok-answer-in-Ok c = PartsDue.accepted c.in-Ok.p c.in-Ok.ensures.accepted c.in_ok-answer-in-Ok.ensures

-- or it is refused
pub returns-in_ok-answer-in-Err-Refused : goal.returns-in_ok-answer-in-Err-Refused
returns-in_ok-answer-in-Err-Refused c =
    PartsDue.refused c.in-Err-Refused.refusal
    (subst (λ (fail : FrontFail). HasCause c.args.text.now fail) c.in-Err-Refused.field-0-is c.in-Err-Refused.ensures.refused)
    c.in_ok-answer-in-Err-Refused.ensures
