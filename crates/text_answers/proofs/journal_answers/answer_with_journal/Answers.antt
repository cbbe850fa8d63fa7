use Rattle.std.proofs.Common.{ℕ, List, sym, ap, ◌∙◌, subst}
use Rattle.twe_frontend.specs.Accepted.{Accepted, IsRefusal}
use Rattle.twe_frontend.specs.Reads.{HasCause}
use Rattle.twe_frontend.specs.declared.read.FrontFail.{FrontFail}
use Rattle.twe_frontend.specs.declared.refusal.Refusal.{Refusal}
use Rattle.twe_report.specs.Texts.{refusal_text}
use Rattle.twe_io.specs.declared.status.Status.TheVariants.{Refused}
use Rattle.twe_io.specs.Answers.{on_err}
use Rattle.text_answers.specs.Due.{JournalDue}
use Rattle.text_answers.proofs.journal_answers.answer_with_journal.Goals as goal

-- the program is accepted
pub answer_accepted-requires-clause-accepted : goal.answer_accepted-requires-clause-accepted
answer_accepted-requires-clause-accepted g c =
    subst (λ (text : List ℕ). Accepted text c.in-Ok.p) c.cut_input.ensures.program c.in-Ok.ensures.accepted

-- or it is refused
pub returns-in_ok-refusal_text-in-Err-Refused : goal.returns-in_ok-refusal_text-in-Err-Refused
returns-in_ok-refusal_text-in-Err-Refused g c =
    let text = c.cut_input.result.0.now in
    let cause = subst (λ (fail : FrontFail). HasCause text fail) c.in-Err-Refused.field-0-is c.in-Err-Refused.ensures.refused in
    subst (JournalDue (g.P.JournalProgram.gives c.args.program.now) c.args.input.now)
    (sym (c.on_err.ensures ∙ (ap (on_err Refused) c.in_ok-refusal_text-in-Err-Refused.ensures ∙ ap (λ (r : Refusal). on_err Refused (refusal_text r)) c.in-Err-Refused.refusal-is)))
    (JournalDue.refused c.in-Err-Refused.refusal (subst (λ (l : List ℕ). IsRefusal l c.in-Err-Refused.refusal) c.cut_input.ensures.program cause))
