-- The answer to a text that is run is due.
use Rattle.std.proofs.Common.{ℕ, Bool, List, Some, None, refl, subst}
use Rattle.seg_journal.specs.declared.journal.Entry.{Entry}
use Rattle.twe_base.specs.Limits.{Bounds}
use Rattle.twe_program.specs.Program.{Program}
use Rattle.twe_frontend.specs.Accepted.{Accepted}
use Rattle.machine_state.specs.LowestFirst.{IsOver, LowestFirst}
use Rattle.machine_state.specs.Runs.{AlwaysIsolated, EachAtMostOnce, EachOnce, IsOutcome, IsRun}
use Rattle.machine_state.specs.declared.ending.Outcome.{Outcome}
use Rattle.machine_state.specs.declared.ending.Outcome.TheVariants.{AllDone, Fault, Stuck, Unfinished}
use Rattle.machine_state.specs.declared.state.State.{State}
use Rattle.isolation_laws.specs.Conflicts.{AlwaysCovered}
use Rattle.determinism_laws.specs.results.Main.{MainHasItsResult}
use Rattle.determinism_laws.specs.results.Results.{DeterministicTasksHaveResults}
use Rattle.text_answers.specs.declared.book.Book.{Book}
use Rattle.text_answers.proofs.Outcomes.{has_journal}
use Rattle.twe_io.specs.declared.answer.Answer.{Answer}
use Rattle.explain_pages.specs.declared.wanted.Wanted.{Wanted}
use Rattle.run_notes.specs.Journals.{RunTold}
use Rattle.twe_explain.specs.Runs.{RunDue}

-- an answer to a run is one to its outcome
pub outcome_of : (wanted : Wanted) (text : List ℕ) (p : Program) (lim : Bounds) (journal : List Entry) (st : State) (answer : Answer)
    → RunTold wanted text p lim journal st answer → (outcome : Outcome) × IsOutcome st outcome
outcome_of wanted text p lim journal st answer (RunTold.done is) = (AllDone, is)
outcome_of wanted text p lim journal st answer (RunTold.faulted fault snapshot tree is met parsed) = (Fault fault.task fault.kind fault.place, is)
outcome_of wanted text p lim journal st answer (RunTold.stuck cycle is exact reasons) = (Stuck, is)
outcome_of wanted text p lim journal st answer (RunTold.unfinished moves is next) = (Unfinished, is)

-- a book of a run with this outcome
book_of : Program → List Entry → Outcome → Book
book_of p journal outcome = record { prog = Some p; journal = journal; outcome = Some outcome; refusal = None }

-- what a run of an accepted program has, makes its answer due
pub due_of_run : (all : Bool) (wanted : Wanted) (text : List ℕ) (p : Program) (lim : Bounds) (journal : List Entry) (st : State) (answer : Answer)
    → Accepted text p → IsRun p lim journal st → LowestFirst p lim journal → IsOver st → (IsOutcome st AllDone → EachOnce journal st)
    → EachAtMostOnce journal → AlwaysIsolated p lim journal → AlwaysCovered p lim journal
    → DeterministicTasksHaveResults p lim journal → MainHasItsResult p lim journal
    → RunTold wanted text p lim journal st answer → RunDue all wanted text lim answer
unfolding book_of
due_of_run all wanted text p lim journal st answer accepted run lowest over once most isolated covered results of_main told =
    let ended = outcome_of wanted text p lim journal st answer told in
    let book = book_of p journal ended.0 in
    RunDue.ran p ended.0 book accepted
    (record {
      has = has_journal p lim journal st ended.0 run ended.1 once most isolated covered results of_main book refl refl refl refl;
      lowest = λ none. lowest;
      over = over ended.0 ended.1;
    })
    (subst (λ (s : State). RunTold wanted text p lim journal s answer) run.same told)
