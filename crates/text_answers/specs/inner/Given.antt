-- What is known on the way from a command to its reply.
--
-- The way has four parts. `twe replay` goes it so: its input is read (`IsInputOf`); the program text is refused (`IsRefusalReply`)
-- or accepted; the journal text is read, and is replayed if each move is legal (`IsReplyOfReplay`, `AnswersFound`,
-- `IsReplyToMoves`); and then this is the reply to the input (`IsReplyTo`). `twe run` leaves it once its text is accepted
-- (`IsStartedToRun`, `IsStartedFor`): its program is run, and the run gets its reply (`IsReplyToRun`, `reported`).
use Rattle.std.specs.Prelude.{◌≡◌, ◌≤◌, ℕ, List, Some, length}
use Rattle.seg_journal.specs.declared.journal.Entry.{Entry}
use Rattle.seg_journal.specs.declared.moves.Move.{Move}
use Rattle.seg_journal.specs.declared.text.JournalText.{JournalText}
use Rattle.seg_journal.specs.Spelling.{Spells}
use Rattle.twe_base.specs.Language.{max_text_bytes}
use Rattle.twe_base.specs.Limits.{Bounds}
use Rattle.twe_program.specs.Program.{Program}
use Rattle.twe_frontend.specs.Accepted.{Accepted}
use Rattle.twe_frontend.specs.declared.read.FrontFail.{FrontFail}
use Rattle.twe_frontend.specs.declared.read.FrontFail.TheVariants.{Refused, OutOfMemory}
use Rattle.machine_state.specs.declared.ending.Outcome.{Outcome}
use Rattle.machine_state.specs.declared.state.State.{State}
use Rattle.machine_state.specs.Runs.{state_after, counted}
use Rattle.flat_sched.specs.RunEnds.{outcome_of}
use Rattle.flat_sched.specs.Stuck.{IsCycleOfReasons, IsStuckCycle}
use Rattle.flat_sched.specs.declared.ending.RunEnd.{RunEnd}
use Rattle.flat_sched.specs.declared.ending.RunEnd.TheVariants as ends
use Rattle.flat_sched.specs.declared.ending.WholeRun.{WholeRun}
use Rattle.command_line.specs.declared.command.Command.{Command}
use Rattle.twe_io.specs.Answers.{on_err}
use Rattle.twe_io.specs.Ends.{SourceTells}
use Rattle.twe_io.specs.declared.answer.Answer.{Answer}
use Rattle.twe_io.specs.declared.status.Status.TheVariants as statuses
use Rattle.twe_report.specs.Texts.{refusal_text}
use Rattle.twe_report.specs.declared.reading.Input.{Input}
use Rattle.twe_report.specs.declared.reading.Input.TheVariants.{Given, Failed}
use Rattle.text_answers.specs.declared.asked.AskedRun.{AskedRun}
use Rattle.text_answers.specs.declared.asked.Report.{Report}
use Rattle.text_answers.specs.declared.asked.Report.TheVariants.{OfRun, OfLoad}
use Rattle.text_answers.specs.declared.book.Book.{Book}
use Rattle.text_answers.specs.declared.book.Reply.{Reply}
use Rattle.text_answers.specs.declared.starting.Started.{Started}
use Rattle.text_answers.specs.declared.starting.Started.TheVariants.{Answered, ToRun}
use Rattle.text_answers.specs.Answers.{Due, AnswersReplay, AnswersRun, for_load, with_journal}
use Rattle.text_answers.specs.Causes.{Cause}
use Rattle.text_answers.specs.Input.{program_text}
use Rattle.text_answers.specs.Running.{asked_of}
use Rattle.text_answers.specs.Starting.{IsReadyToRun}
use Rattle.text_answers.specs.Theorem.{HasJournal, HasRefusal, HasReplay, IsNew}

-- The input.

-- an answer to the input has its cause, and so has the answer to a read that failed, if nothing is in the book
abbrev pub IsInputOf : {S : Type 0} → SourceTells S → Command → S → S → Input → Type 0
IsInputOf tells command before after (Given input) =
    (length input ≤ max_text_bytes)
    × ((book : Book) (answer : Answer) → Due command input book answer → Cause tells command before after book answer)
IsInputOf tells command before after (Failed answer) =
    (book : Book) → IsNew book → Cause tells command before after book answer

-- The text of a program.

-- the reply to a command with this input
abbrev pub IsReplyTo : Command → List ℕ → Reply → Type 0
IsReplyTo command input reply = Due command input reply.book reply.answer

-- the reply to a text that is refused; there is none if memory ran out
abbrev pub IsRefusalReply : FrontFail → Reply → Type 0
IsRefusalReply (Refused refusal) reply =
    HasRefusal refusal reply.book × (reply.answer ≡ on_err statuses.Refused (refusal_text refusal))
IsRefusalReply (OutOfMemory memory) reply = ⊥

-- what a command with this input has come to: its reply; or the program of its accepted text, ready to be run
abbrev pub IsStartedFor : Command → List ℕ → Started → Type 0
IsStartedFor command input (Answered reply) = IsReplyTo command input reply
IsStartedFor command input (ToRun p asked) = Accepted (program_text command input) p × IsReadyToRun command p asked

-- the same, of each command that asks for this run and each input that has this program text
abbrev pub IsStartedToRun : List ℕ → AskedRun → Started → Type 0
IsStartedToRun program asked started =
    (command : Command) (input : List ℕ) → asked_of command ≡ Some asked → program ≡ program_text command input
    → IsStartedFor command input started

-- The text of a journal.

-- the reply to the replay of this journal text
abbrev pub IsReplyOfReplay : Program → Bounds → List ℕ → Reply → Type 0
IsReplyOfReplay p lim text reply = AnswersReplay p lim text reply.book reply.answer

-- the reply to each journal text in which this was found
abbrev pub AnswersFound : Program → Bounds → JournalText → Reply → Type 0
AnswersFound p lim found reply =
    (text : List ℕ) → Spells text found.head found.moves → IsReplyOfReplay p lim text reply

-- the book has the replay of these moves, and this is the answer to it
pub record IsReplyToMoves (p : Program) (lim : Bounds) (moves : List Move) (reply : Reply) : Type 0 where
  pub outcome : Outcome
  pub replay : HasReplay p lim moves outcome reply.book
  pub answers : AnswersRun p (state_after p lim reply.book.journal) (state_after p lim (counted reply.book.journal)).prints
      outcome reply.answer

-- A run.

-- if a run in this state has ended in a cycle, each edge of that has its reason
abbrev pub HasReasons : State → RunEnd → Type 0
HasReasons st (ends.Stuck cycle) = IsStuckCycle st cycle × IsCycleOfReasons st cycle
HasReasons st _ = Unit {0}

-- the book has this run, and this is the answer to it without its journal
pub record IsReplyToRun (p : Program) (lim : Bounds) (run : WholeRun) (reply : Reply) : Type 0 where
  pub kept : reply.book.journal ≡ run.journal
  pub has : HasJournal p lim (outcome_of run.end) reply.book
  pub answers : AnswersRun p (state_after p lim run.journal) (state_after p lim (counted run.journal)).prints
      (outcome_of run.end) reply.answer

-- what is written of a run under these limits: its journal after its result, if that is wanted; or the result of a load
abbrev pub reported_as : Report → Bounds → State → List Entry → Answer → Answer
reported_as (OfRun wanted) lim last journal plain = with_journal wanted lim journal plain
reported_as (OfLoad n) lim last journal plain = for_load n last plain

-- what is written of a run that is asked for, which has this answer without its journal
abbrev pub reported : AskedRun → State → List Entry → Answer → Answer
reported asked last journal plain = reported_as asked.report asked.limits last journal plain
