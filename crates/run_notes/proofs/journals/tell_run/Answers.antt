use Rattle.std.proofs.Common.{sym, subst}
use Rattle.machine_state.specs.Runs.{IsOutcome}
use Rattle.machine_state.specs.declared.ending.Outcome.{Outcome}
use Rattle.run_notes.specs.Journals.{RunTold}
use Rattle.run_notes.proofs.journals.tell_run.Goals as goal

-- the state was reached
pub outcome-requires : goal.outcome-requires
outcome-requires c = (c.args.lim, record { journal = c.args.journal.now; legal = c.requires.legal; same = c.requires.same })

-- each answer is to its outcome
pub returns-in_ok-answer-in-AllDone : goal.returns-in_ok-answer-in-AllDone
returns-in_ok-answer-in-AllDone c =
    subst (RunTold c.args.wanted.now c.args.text.now c.args.p.now c.args.lim c.args.journal.now c.args.st.now) (sym c.in_ok-answer-in-AllDone.ensures)
    (RunTold.done (subst (λ (o : Outcome). IsOutcome c.args.st.now o) c.in-AllDone.is c.outcome.ensures))

pub answer_fault-requires-clause-fault : goal.answer_fault-requires-clause-fault
answer_fault-requires-clause-fault c = subst (λ (o : Outcome). IsOutcome c.args.st.now o) c.in-Fault.is c.outcome.ensures

pub answer_stuck-requires-clause-stuck : goal.answer_stuck-requires-clause-stuck
answer_stuck-requires-clause-stuck c = subst (λ (o : Outcome). IsOutcome c.args.st.now o) c.in-Stuck.is c.outcome.ensures

pub answer_unfinished-requires-clause-unfinished : goal.answer_unfinished-requires-clause-unfinished
answer_unfinished-requires-clause-unfinished c = subst (λ (o : Outcome). IsOutcome c.args.st.now o) c.in-Unfinished.is c.outcome.ensures
