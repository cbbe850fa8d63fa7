use Rattle.std.proofs.Common.{subst}
use Rattle.effect_check.specs.FailsEffect.{CheckHasCause}
use Rattle.effect_check.specs.declared.rule.CheckFail.{CheckFail}
use Rattle.twe_frontend.specs.Accepted.{of_effects}
use Rattle.twe_frontend.proofs.read.read_program.Goals as goal

-- the check's refusal
pub returns-in-Err-Rule-clause-refused : goal.returns-in-Err-Rule-clause-refused
returns-in-Err-Rule-clause-refused c =
    of_effects c.in_ok-p.p c.in-Err-Rule.rule c.in-Err-Rule.place c.in_ok-p.ensures.meaning
    (subst (λ (fail : CheckFail). CheckHasCause c.in_ok-p.p fail) c.in-Err-Rule.field-0-is c.in-Err-Rule.ensures.refused)
