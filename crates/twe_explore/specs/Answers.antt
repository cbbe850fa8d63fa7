-- What the program answers, and why.
use Rattle.std.specs.Prelude.{◌≡◌, ◌-◌, ℕ, Bool, true, false, List, None, Some, length, slice_get, if◌then◌else◌}
use Rattle.std.specs.List.{list_any}
use Rattle.twe_base.specs.Limits.{Bounds}
use Rattle.twe_program.specs.Program.{Program}
use Rattle.twe_frontend.specs.Accepted.{Accepted, IsRefusal}
use Rattle.twe_frontend.specs.declared.refusal.Refusal.{Refusal}
use Rattle.machine_state.specs.Runs.{counted, state_after}
use Rattle.flat_sched.specs.declared.ending.RunEnd.{RunEnd}
use Rattle.flat_sched.specs.declared.ending.RunEnd.TheVariants as run_ends
use Rattle.flat_sched.specs.declared.ending.WholeRun.{WholeRun}
use Rattle.flat_sched.specs.RunEnds.{outcome_of}
use Rattle.all_runs.specs.declared.ends.FoundEnds.{FoundEnds}
use Rattle.all_runs.specs.declared.extent.Extent.{Extent}
use Rattle.all_runs.specs.declared.extent.Extent.TheVariants.{All, TooManyStates, OutOfMemory}
use Rattle.all_runs.specs.Extents.{IsExtent}
use Rattle.all_runs.specs.AllRuns.{ShowsAllRuns, ShowsRuns}
use Rattle.twe_io.specs.declared.answer.Answer.{Answer}
use Rattle.twe_io.specs.declared.status.Status.{Status}
use Rattle.twe_io.specs.declared.status.Status.TheVariants.{Done, Refused, Fault, Stuck, Unfinished}
use Rattle.twe_io.specs.Ends.{Ends, EndsTell, SourceTells}
use Rattle.twe_io.specs.Answers.{IsAnswered, on_err, on_out}
use Rattle.twe_report.specs.Causes.{TextCause}
use Rattle.twe_report.specs.Texts.{journal_part_text, refusal_text}
use Rattle.text_answers.specs.Answers.{AnswersRun}
use Rattle.twe_explore.specs.declared.words.Question.{Question}
use Rattle.twe_explore.specs.Texts.{explore_usage_text, no_result_text, results_text}
use Rattle.twe_explore.specs.Json.{IsJsonLine, explored_data, results_data}
use Rattle.twe_explore.specs.Words.{question_of}

-- What was found of the runs of a program: runs that have ended, each with its journal, no two in one way. If all were looked at, each
-- run that has ended, by whatever legal journal, has ended as one of them. If not, more than `most` states were found, or memory ran
-- out.
pub record HaveEnds (p : Program) (lim : Bounds) (most : ℕ) (found : FoundEnds) : Type 0 where
  pub shows : ShowsRuns p lim found.ended
  pub all : found.extent ≡ All → ShowsAllRuns p lim found.ended
  pub extent : IsExtent most found.states found.extent

-- this is what `twe run` answers if it makes this run
abbrev pub AnswersFor : Program → Bounds → WholeRun → Answer → Type 0
AnswersFor p lim run answer =
    AnswersRun p run.state (state_after p lim (counted run.journal)).prints (outcome_of run.end) answer

-- these are the answers for the runs, in order
pub record AreAnswersFor (p : Program) (lim : Bounds) (runs : List WholeRun) (answers : List Answer) : Type 0 where
  pub count : length answers ≡ length runs
  pub each : (at : ℕ) (run : WholeRun) (answer : Answer) → slice_get runs at ≡ Some run → slice_get answers at ≡ Some answer
      → AnswersFor p lim run answer

-- this is what `twe run` answers if it makes one of these runs
abbrev pub IsAnswerOfOne : Program → Bounds → List WholeRun → Answer → Type 0
IsAnswerOfOne p lim runs answer = (at : ℕ) × (run : WholeRun) × (slice_get runs at ≡ Some run) × AnswersFor p lim run answer

-- whether a run has ended with a fault
abbrev pub is_fault_end : RunEnd → Bool
is_fault_end (run_ends.Fault task kind place) = true
is_fault_end _ = false

-- whether it is stuck
abbrev pub is_stuck_end : RunEnd → Bool
is_stuck_end (run_ends.Stuck cycle) = true
is_stuck_end _ = false

-- the status if all runs were looked at: whether one faults, or else whether one gets stuck
abbrev pub whole_status : List WholeRun → Status
whole_status runs =
    if list_any (λ run. is_fault_end run.end) runs then Fault
    else if list_any (λ run. is_stuck_end run.end) runs then Stuck
    else Done

-- whether a search went to its end
abbrev pub is_complete : Extent → Bool
is_complete All = true
is_complete TooManyStates = false
is_complete OutOfMemory = false

-- the status, by whether all runs were looked at
abbrev pub results_status : Bool → List WholeRun → Status
results_status whole runs = if whole then whole_status runs else Unfinished

-- The answer to a text that was read.
pub data ExploreDue (question : Question) (text : List ℕ) : Answer → Type 0 where
  -- the text is refused, as `twe run` says
  refused : (r : Refusal) → IsRefusal text r → ExploreDue question text (on_err Refused (refusal_text r))
  -- the results are listed, each with what `twe run` would write for it
  listed : (p : Program) (found : FoundEnds) (answers : List Answer) → question.journal ≡ None → question.json ≡ false → Accepted text p
      → HaveEnds p question.lim question.states found → AreAnswersFor p question.lim found.ended answers
      → ExploreDue question text (on_out (results_status (is_complete found.extent) found.ended) (results_text found.states (is_complete found.extent) answers))
  -- the same is written as JSON, with the journal of each result
  listed_as_json : (p : Program) (found : FoundEnds) (answers : List Answer) (line : List ℕ) → question.journal ≡ None
      → question.json ≡ true → Accepted text p → HaveEnds p question.lim question.states found
      → AreAnswersFor p question.lim found.ended answers
      → IsJsonLine (explored_data (is_complete found.extent) (results_data question.lim found.ended answers) found.states) line
      → ExploreDue question text (on_out (results_status (is_complete found.extent) found.ended) line)
  -- the journal of one result is written, as `twe run --journal` does
  journal_of : (p : Program) (found : FoundEnds) (number : ℕ) (run : WholeRun) → question.journal ≡ Some number → Accepted text p
      → HaveEnds p question.lim question.states found → slice_get found.ended (number - 1) ≡ Some run
      → ExploreDue question text (on_out Done (journal_part_text question.lim run.journal))
  -- there are fewer results
  no_result : (p : Program) (found : FoundEnds) (number : ℕ) → question.journal ≡ Some number → Accepted text p
      → HaveEnds p question.lim question.states found → slice_get found.ended (number - 1) ≡ None
      → ExploreDue question text (on_err Refused (no_result_text number))

-- why the program gives an answer, before it writes anything
abbrev pub ExploreCause : {S : Type 0} → SourceTells S → List (List ℕ) → S → S → Answer → Type 0
ExploreCause tells words = TextCause question_of explore_usage_text ExploreDue tells words

-- what a call of the program comes to: an answer that has its cause is written; or memory runs out beside the search, and nothing
-- is written
abbrev pub AnswersExplore : {S O E : Type 0} → EndsTell S O E → List (List ℕ) → Ends S O E → Ends S O E → Status
    → Type 0
AnswersExplore tells words before after status = IsAnswered tells (ExploreCause tells.src words) before after status
