-- What the book has of a run, and the answer to a stuck one.
use Rattle.std.proofs.Common.{◌≡◌, ℕ, ℤ, List, Result, Ok, Err, Some, None, IfOk, sym, subst, ap, ◌∙◌}
use Rattle.twe_base.specs.declared.memory.Memory as out_of
use Rattle.wait_graph.specs.declared.stuck.Edge.{Edge}
use Rattle.seg_journal.specs.declared.journal.Entry.{Entry}
use Rattle.twe_program.specs.Program.{Program}
use Rattle.machine_state.specs.declared.ending.Outcome.{Outcome}
use Rattle.machine_state.specs.declared.ending.Outcome.TheVariants.{AllDone, Fault, Stuck, Unfinished}
use Rattle.machine_state.specs.declared.state.State.{State}
use Rattle.machine_state.specs.Runs.{AlwaysIsolated, EachAtMostOnce, EachOnce, IsOutcome, IsRun, Legal, state_after}
use Rattle.isolation_laws.specs.Conflicts.{AlwaysCovered}
use Rattle.determinism_laws.specs.results.Main.{MainHasItsResult}
use Rattle.determinism_laws.specs.results.Results.{DeterministicTasksHaveResults}
use Rattle.flat_sched.specs.RunEnds.{IsRunEnd, outcome_of}
use Rattle.flat_sched.specs.Stuck.{IsCycleOfReasons, IsStuckCycle}
use Rattle.flat_sched.specs.declared.ending.RunEnd.{RunEnd}
use Rattle.flat_sched.specs.declared.ending.RunEnd.TheVariants as ends
use Rattle.twe_report.specs.Texts.{stuck_text}
use Rattle.twe_io.specs.declared.answer.Answer.{Answer}
use Rattle.twe_io.specs.declared.status.Status.TheVariants as statuses
use Rattle.text_answers.specs.Answers.{AnswersRun, after_prints}
use Rattle.text_answers.specs.Theorem.{EachOnceIfDone, HasJournal}
use Rattle.text_answers.specs.declared.book.Book.{Book}
use Rattle.text_answers.specs.inner.Given.{HasReasons}
use Rattle.twe_base.specs.Limits.{Bounds}

-- everything happened as often as it should
pub often : (st : State) (journal : List Entry) (outcome : Outcome) → IsOutcome st outcome → (IsOutcome st AllDone → EachOnce journal st) → EachAtMostOnce journal → EachOnceIfDone outcome journal st
often st journal AllDone is once most = once is
often st journal (Fault task kind place) is once most = most
often st journal Stuck is once most = most
often st journal Unfinished is once most = most

-- each edge of the cycle of a stuck run has its reason
pub reasons_of : (st : State) (end : RunEnd) → ((cycle : List Edge) → IsOutcome st Stuck → IsStuckCycle st cycle → IsCycleOfReasons st cycle) → IsRunEnd st end → HasReasons st end
reasons_of st ends.AllDone law is = tt
reasons_of st (ends.Fault task kind place) law is = tt
reasons_of st (ends.Stuck cycle) law is = (is.1, law cycle is.0 is.1)
reasons_of st ends.Unfinished law is = tt

-- the answer to a stuck run has its cycle
pub stuck_answer : (p : Program) (st : State) (prints : List ℤ) (end : RunEnd) (cycle : List Edge) (line : List ℕ) (made : Result Answer out_of.Memory) → end ≡ ends.Stuck cycle
    → HasReasons st end → line ≡ stuck_text cycle → IfOk made (λ a. a ≡ after_prints statuses.Stuck prints line) → IfOk made (AnswersRun p st prints (outcome_of end))
stuck_answer p st prints end cycle line (Ok a) is reasons said same =
    let here = subst (HasReasons st) is reasons in
    subst (λ (e : RunEnd). AnswersRun p st prints (outcome_of e) a) (sym is) (cycle, here.0, here.1, same ∙ ap (after_prints statuses.Stuck prints) said)
stuck_answer p st prints end cycle line (Err e) is reasons said same = tt

-- the book has a legal journal and its outcome
pub has_journal : (p : Program) (lim : Bounds) (journal : List Entry) (st : State) (outcome : Outcome) → IsRun p lim journal st → IsOutcome st outcome
    → (IsOutcome st AllDone → EachOnce journal st) → EachAtMostOnce journal → AlwaysIsolated p lim journal → AlwaysCovered p lim journal
    → DeterministicTasksHaveResults p lim journal → MainHasItsResult p lim journal → (book : Book) → book.prog ≡ Some p → book.refusal ≡ None → book.journal ≡ journal → book.outcome ≡ Some outcome → HasJournal p lim outcome book
has_journal p lim journal st outcome run is once most isolated covered results of_main book program refusal entries told = record {
  program = program;
  not_refused = refusal;
  legal = subst (Legal p lim) (sym entries) run.legal;
  told = told;
  ended = subst (λ (es : List Entry). IsOutcome (state_after p lim es) outcome) (sym entries) (subst (λ (s : State). IsOutcome s outcome) run.same is);
  often = subst (λ (es : List Entry). EachOnceIfDone outcome es (state_after p lim es)) (sym entries)
      (subst (λ (s : State). EachOnceIfDone outcome journal s) run.same (often st journal outcome is once most));
  isolated = subst (AlwaysIsolated p lim) (sym entries) isolated;
  covered = subst (AlwaysCovered p lim) (sym entries) covered;
  deterministic = subst (DeterministicTasksHaveResults p lim) (sym entries) results;
  of_main = subst (MainHasItsResult p lim) (sym entries) of_main;
}
