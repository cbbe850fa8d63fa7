-- What the program answers, and why.
use Rattle.std.specs.Prelude.{ℕ, List}
use Rattle.seg_journal.specs.declared.moves.Move.{Move}
use Rattle.twe_base.specs.Limits.{Bounds}
use Rattle.twe_ast.specs.declared.item.Item.{Item}
use Rattle.twe_program.specs.Program.{Program}
use Rattle.text_answers.specs.Input.{program_part}
use Rattle.twe_report.specs.Causes.{TextCause}
use Rattle.text_answers.specs.Due.{JournalDue}
use Rattle.twe_io.specs.Ends.{Ends, EndsTell, SourceTells}
use Rattle.twe_io.specs.Answers.{IsAnswered, on_out}
use Rattle.twe_io.specs.declared.answer.Answer.{Answer}
use Rattle.twe_io.specs.declared.status.Status.{Status}
use Rattle.twe_io.specs.declared.status.Status.TheVariants.{Done}
use Rattle.machine_state.specs.declared.state.TaskRow.{TaskRow}
use Rattle.span_profile.specs.Profiles.{HasEarliest}
use Rattle.span_profile.specs.Reasons.{HasSteps}
use Rattle.span_profile.specs.declared.reasons.ChainStep.{ChainStep}
use Rattle.held_span.specs.MostHeld.{HeldMost}
use Rattle.held_span.specs.declared.pair.HeldPair.{HeldPair}
use Rattle.held_span.specs.HeldSpans.{IsHeldProfile}
use Rattle.held_span.specs.declared.hold.Hold.{Hold}
use Rattle.span_profile.specs.Advice.{AreMadeTasks, IsAdvice}
use Rattle.span_profile.specs.declared.totals.TaskWork.{TaskWork}
use Rattle.twe_advise.specs.declared.words.AdviceWords.{AdviceWords}
use Rattle.twe_advise.specs.declared.paces.PacedTime.{PacedTime}
use Rattle.twe_advise.specs.Forms.{advice_text}
use Rattle.twe_advise.specs.Parameters.{AreDeclarations}
use Rattle.twe_advise.specs.Paces.{ArePaces, worker_counts}
use Rattle.twe_advise.specs.Words.{advise_usage_text, asked_advice}

-- The answer, as these words ask for it, to legal moves of an accepted program under these limits, whose text has these
-- declarations.
pub data AdviceGiven (wanted : AdviceWords) (items : List Item) (p : Program) (lim : Bounds) (moves : List Move) : Answer → Type 0 where
  -- what the run could gain is written, which effects held most, and why the entries of its heaviest chain follow one another
  advised : (work span held : ℕ) (chain : List ℕ) (works : List TaskWork) (steps : List ChainStep) (tasks : List TaskRow)
      (starts ends held_starts held_ends : List ℕ) (holds : List Hold) (pairs : List HeldPair) (paces : List PacedTime)
      → IsAdvice p lim moves work span chain works → HasSteps p lim moves chain steps
      → AreMadeTasks p lim moves tasks → HasEarliest p lim moves span starts ends
      → ArePaces starts ends held_starts held_ends (worker_counts wanted.workers) paces
      → IsHeldProfile p lim moves held held_starts held_ends holds → HeldMost tasks holds pairs
      → AdviceGiven wanted items p lim moves
      (on_out Done (advice_text wanted.form p items work span held holds pairs paces works tasks starts steps))

-- the answer to an input, as these words ask for it: to the text of a program, and after the first line that is exactly `%%`
-- the text of a journal
abbrev pub AdviceDue : AdviceWords → List ℕ → Answer → Type 0
AdviceDue wanted input answer =
    (items : List Item) × AreDeclarations (program_part input) items × JournalDue (AdviceGiven wanted items) input answer

-- why the program gives an answer, before it writes anything
abbrev pub AdviceCause : {S : Type 0} → SourceTells S → List (List ℕ) → S → S → Answer → Type 0
AdviceCause tells words = TextCause asked_advice advise_usage_text AdviceDue tells words

-- what a call of the program comes to: an answer that has its cause is written; or memory runs out, and nothing is written
abbrev pub IsAdvised : {S O E : Type 0} → EndsTell S O E → List (List ℕ) → Ends S O E → Ends S O E → Status → Type 0
IsAdvised tells words before after status = IsAnswered tells (AdviceCause tells.src words) before after status
