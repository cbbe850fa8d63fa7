use Rattle.std.proofs.Common.{subst}
use Rattle.refusal_causes.specs.declared.explained.Explained.{Explained}
use Rattle.refusal_causes.specs.Explained.{IsExplained}
use Rattle.refusal_notes.specs.AllFailures.{AllDue}
use Rattle.refusal_notes.proofs.Classes.{of_names, of_text, of_tokens}
use Rattle.refusal_notes.proofs.all_failures.answer_known.Goals as goal

-- the text is refused by a rule on effects
pub answer_late-requires : goal.answer_late-requires
answer_late-requires c = subst (λ (e : Explained). IsExplained c.args.text.now e) c.in-Late.is c.requires

-- it is accepted
pub returns-in_ok-answer-in-Kept : goal.returns-in_ok-answer-in-Kept
returns-in_ok-answer-in-Kept c =
    let known = subst (λ (e : Explained). IsExplained c.args.text.now e) c.in-Kept.is c.requires in
    AllDue.accepted known.0 known.1 c.in_ok-answer-in-Kept.ensures

-- it is refused by a rule of the text
pub returns-in_ok-answer-in-Early : goal.returns-in_ok-answer-in-Early
returns-in_ok-answer-in-Early c =
    let known = subst (λ (e : Explained). IsExplained c.args.text.now e) c.in-Early.is c.requires in
    AllDue.early c.in-Early.refusal known.0 (of_text c.args.text.now c.in-Early.refusal.rule c.in-Early.refusal.place c.in-Early.cause known.1) c.in_ok-answer-in-Early.ensures

-- at a token, or at its end
pub returns-in_ok-answer-in-Stray : goal.returns-in_ok-answer-in-Stray
returns-in_ok-answer-in-Stray c =
    let known = subst (λ (e : Explained). IsExplained c.args.text.now e) c.in-Stray.is c.requires in
    AllDue.early c.in-Stray.refusal known.0 (of_tokens c.in-Stray.refusal.rule known.1) c.in_ok-answer-in-Stray.ensures

-- by a rule of names
pub returns-in_ok-answer-in-Named : goal.returns-in_ok-answer-in-Named
returns-in_ok-answer-in-Named c =
    let known = subst (λ (e : Explained). IsExplained c.args.text.now e) c.in-Named.is c.requires in
    AllDue.early c.in-Named.refusal known.0 (of_names c.in-Named.refusal.rule known.1) c.in_ok-answer-in-Named.ensures
