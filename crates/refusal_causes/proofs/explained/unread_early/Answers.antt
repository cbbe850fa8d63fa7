use Rattle.std.proofs.Common.{⊎_elim, sym, ap, ◌∙◌, subst}
use Rattle.twe_frontend.specs.declared.refusal.RuleName.{RuleName}
use Rattle.twe_frontend.specs.Reads.{IsTextFailure}
use Rattle.refusal_causes.specs.Explained.{IsTextCauseOf, is_of_tokens}
use Rattle.refusal_causes.proofs.Early.{caused, text_refused}
use Rattle.refusal_causes.proofs.explained.unread_early.Goals as goal

-- the first failure of a rule of the text
pub text_cause-requires-clause-fails : goal.text_cause-requires-clause-fails
text_cause-requires-clause-fails c =
    subst (λ (rule : RuleName). IsTextFailure c.args.text.now rule c.args.refusal.place) c.in-Text.is c.requires.fails

pub text_cause-requires-clause-caused : goal.text_cause-requires-clause-caused
text_cause-requires-clause-caused c = caused c.in-Text.rule (sym (ap is_of_tokens c.in-Text.is) ∙ c.requires.early)

-- it is a rule of the text
pub unreachable-requires : goal.unreachable-requires
unreachable-requires c =
    let fails = c.requires.fails in
    let P = λ (rule : RuleName). IsTextFailure c.args.text.now rule c.args.refusal.place in
    ⊎_elim (λ name. subst P name.1 fails) (λ effect. subst P effect.1 fails) c.in-Name.is

-- it has this cause
pub returns : goal.returns
returns c = (
  text_refused c.args.text.now c.args.refusal.rule c.args.refusal.place c.requires.fails,
  subst (λ (rule : RuleName). IsTextCauseOf c.args.text.now rule c.args.refusal.place c.in_ok-cause-in-Text.cause) (sym c.in-Text.is)
      c.in_ok-cause-in-Text.ensures,
)
