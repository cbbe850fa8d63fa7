use Rattle.std.proofs.Common.{subst}
use Rattle.effect_check.specs.FailsEffect.{CheckHasCause}
use Rattle.twe_frontend.specs.Accepted.{IsRefusal}
use Rattle.refusal_causes.proofs.explained.explain_program.Goals as goal

-- no rule fails
pub returns-in-Ok : goal.returns-in-Ok
returns-in-Ok c = (c.args.program, record { meant = c.requires.meant; keeps = c.in-Ok.ensures.accepted })

-- a rule on effects fails
pub cause_at-requires : goal.cause_at-requires
cause_at-requires c = (subst (CheckHasCause c.args.program) c.in-Err-Rule.field-0-is c.in-Err-Rule.ensures.refused).fails

-- it has this cause
pub returns-in_ok-cause-in-Err-Rule : goal.returns-in_ok-cause-in-Err-Rule
returns-in_ok-cause-in-Err-Rule c = record {
  refused = IsRefusal.of_effects c.args.program c.in-Err-Rule.rule c.in-Err-Rule.place c.requires.meant
      (subst (CheckHasCause c.args.program) c.in-Err-Rule.field-0-is c.in-Err-Rule.ensures.refused);
  parsed = c.requires.parsed;
  meant = c.requires.meant;
  of_tree = c.requires.of_tree;
  caused = c.in_ok-cause-in-Err-Rule.ensures;
}
