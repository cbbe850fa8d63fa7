use Rattle.std.proofs.Common.{ap, ◌∙◌}
use Rattle.twe_io.specs.Answers.{on_err}
use Rattle.twe_io.specs.declared.status.Status.TheVariants as statuses
use Rattle.text_answers.proofs.Starts.{refusal_reply}
use Rattle.text_answers.proofs.starting.refuse.Goals as goal

-- the book has the refusal, and the answer is its line
pub returns-in_ok-line-in-Refused : goal.returns-in_ok-line-in-Refused
returns-in_ok-line-in-Refused c =
    refusal_reply c.args.fail c.in-Refused.refusal _ c.in-Refused.is c.of_refusal.ensures (c.on_err.ensures ∙ ap (on_err statuses.Refused) c.in_ok-line-in-Refused.ensures)
