use Rattle.std.proofs.Common.{subst}
use Rattle.twe_frontend.specs.Reads.{HasCause}
use Rattle.twe_frontend.specs.declared.read.FrontFail.{FrontFail}
use Rattle.twe_explain.specs.Runs.{RunDue}
use Rattle.twe_explain.proofs.running.explain_run.Goals as goal

-- the text is refused
pub returns-in_ok-answer-in-Err-Refused : goal.returns-in_ok-answer-in-Err-Refused
returns-in_ok-answer-in-Err-Refused c =
    RunDue.refused c.in-Err-Refused.refusal
    (subst (λ (fail : FrontFail). HasCause c.args.text.now fail) c.in-Err-Refused.field-0-is c.in-Err-Refused.ensures.refused)
    c.in_ok-answer-in-Err-Refused.ensures
