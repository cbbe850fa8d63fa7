use Rattle.std.proofs.Common.{subst}
use Rattle.refusal_causes.specs.declared.explained.Explained.{Explained}
use Rattle.refusal_causes.specs.Explained.{IsExplained}
use Rattle.refusal_notes.proofs.answering.answer_explained.Goals as goal

-- the text is accepted
pub answer_accepted-requires : goal.answer_accepted-requires
answer_accepted-requires c = subst (λ (e : Explained). IsExplained c.args.text.now e) c.in-Kept.is c.requires

-- the text is refused by a rule of the text that is none of tokens
pub answer_refusal-requires-clause-refused : goal.answer_refusal-requires-clause-refused
answer_refusal-requires-clause-refused c =
    (subst (λ (e : Explained). IsExplained c.args.text.now e) c.in-Early.is c.requires).0

pub answer_refusal-requires-clause-caused : goal.answer_refusal-requires-clause-caused
answer_refusal-requires-clause-caused c =
    (subst (λ (e : Explained). IsExplained c.args.text.now e) c.in-Early.is c.requires).1

-- the text is refused at a stray token, or at its end
pub answer_stray-requires-clause-refused : goal.answer_stray-requires-clause-refused
answer_stray-requires-clause-refused c =
    (subst (λ (e : Explained). IsExplained c.args.text.now e) c.in-Stray.is c.requires).0

pub answer_stray-requires-clause-stray : goal.answer_stray-requires-clause-stray
answer_stray-requires-clause-stray c =
    (subst (λ (e : Explained). IsExplained c.args.text.now e) c.in-Stray.is c.requires).1

-- the text is refused by a rule of names
pub answer_named-requires-clause-refused : goal.answer_named-requires-clause-refused
answer_named-requires-clause-refused c =
    (subst (λ (e : Explained). IsExplained c.args.text.now e) c.in-Named.is c.requires).0

pub answer_named-requires-clause-names : goal.answer_named-requires-clause-names
answer_named-requires-clause-names c =
    (subst (λ (e : Explained). IsExplained c.args.text.now e) c.in-Named.is c.requires).1

pub answer_named-requires-clause-parsed : goal.answer_named-requires-clause-parsed
answer_named-requires-clause-parsed c =
    (subst (λ (e : Explained). IsExplained c.args.text.now e) c.in-Named.is c.requires).2

pub answer_named-requires-clause-caused : goal.answer_named-requires-clause-caused
answer_named-requires-clause-caused c =
    (subst (λ (e : Explained). IsExplained c.args.text.now e) c.in-Named.is c.requires).3

-- the text is refused by a rule on effects
pub answer_caused-requires : goal.answer_caused-requires
answer_caused-requires c = subst (λ (e : Explained). IsExplained c.args.text.now e) c.in-Late.is c.requires
