use Rattle.std.proofs.Common.{sym, ap, ◌∙◌, subst}
use Rattle.twe_io.specs.declared.status.Status.TheVariants.{Refused}
use Rattle.twe_io.specs.Answers.{on_err}
use Rattle.twe_annotate.specs.Answers.{AnnotateDue}
use Rattle.twe_annotate.proofs.answering.answer_refusal.Goals as goal

-- the line of the refusal
pub returns : goal.returns
returns c =
    subst (AnnotateDue c.args.request.now c.args.text.now) (sym (c.on_err.ensures ∙ ap (on_err Refused) c.in_ok-line.ensures))
    (AnnotateDue.refused c.args.refusal c.requires)
