use Rattle.std.proofs.Common.{◌∙◌, sym, ap, subst}
use Rattle.twe_io.specs.declared.status.Status.TheVariants.{Done}
use Rattle.twe_io.specs.Answers.{on_out}
use Rattle.refusal_notes.specs.Answers.{ExplainDue}
use Rattle.refusal_notes.proofs.answering.answer_accepted.Goals as goal

-- the text is accepted
pub returns : goal.returns
returns c =
    subst (ExplainDue c.args.wanted.now c.args.text.now) (sym (c.on_out.ensures ∙ ap (on_out Done) c.in_ok-line.ensures))
    (ExplainDue.accepted c.requires.0 c.requires.1)
