use Rattle.std.proofs.Common.{sym, ap, ◌∙◌, subst}
use Rattle.twe_io.specs.declared.status.Status.TheVariants.{Refused}
use Rattle.twe_io.specs.Answers.{on_err}
use Rattle.twe_format.specs.Answers.{FormatDue}
use Rattle.twe_format.proofs.answering.answer_refusal.Goals as goal

-- the line of the refusal
pub returns : goal.returns
returns c =
    subst (FormatDue c.args.request c.args.text.now) (sym (c.on_err.ensures ∙ ap (on_err Refused) c.in_ok-line.ensures))
    (FormatDue.refused c.args.refusal c.requires)
