use Rattle.std.proofs.Common.{false, IfSome, Option, subst}
use Rattle.effect_check.specs.declared.rule.ERule.TheVariants.{E7}
use Rattle.refusal_causes.specs.declared.cause.RuleCause.{RuleCause}
use Rattle.refusal_causes.specs.Causes.{IsCauseIn}
use Rattle.refusal_causes.proofs.alone.note_child.Goals as goal

-- the cause is true, and speaks of no future
pub note_of_task-requires-clause-caused : goal.note_of_task-requires-clause-caused
note_of_task-requires-clause-caused c =
    subst (λ (o : Option RuleCause). IfSome o (IsCauseIn c.args.p.now false E7 c.place_of-place.result c.args.task.now)) c.in-Some.is
    (c.cause_of_child-cause.ensures.found false)
