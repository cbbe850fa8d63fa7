-- The answer to the input of a command.
use Rattle.std.specs.Prelude.{unwrap_or, ◌≡◌, ◌+◌, length, ℕ, ℤ, Bool, List, ◌++◌, Option, if◌then◌else◌}
use Rattle.wait_graph.specs.declared.stuck.Edge.{Edge}
use Rattle.seg_journal.specs.declared.journal.Entry.{Entry}
use Rattle.seg_journal.specs.declared.moves.Move.{Move}
use Rattle.seg_journal.specs.Lines.{IsFirstBadLine}
use Rattle.seg_journal.specs.Spelling.{Spells, head_lines}
use Rattle.twe_base.specs.Language.{default_fuel, default_tasks}
use Rattle.twe_base.specs.Limits.{Bounds}
use Rattle.twe_program.specs.Program.{Program}
use Rattle.twe_frontend.specs.declared.refusal.Refusal.{Refusal}
use Rattle.twe_frontend.specs.Accepted.{Accepted, IsRefusal}
use Rattle.machine_state.specs.declared.ending.Outcome.{Outcome}
use Rattle.machine_state.specs.declared.ending.Outcome.TheVariants as outcomes
use Rattle.machine_state.specs.declared.state.State.{State}
use Rattle.machine_state.specs.declared.why.Why.{Why}
use Rattle.machine_state.specs.Replays.{IsFirstIllegal}
use Rattle.machine_state.specs.Runs.{state_after, counted}
use Rattle.flat_sched.specs.Stuck.{IsCycleOfReasons, IsStuckCycle}
use Rattle.twe_report.specs.Texts.{result_text, prints_text, fault_text, stuck_text, unfinished_text}
use Rattle.twe_report.specs.Texts.{not_a_move_text, not_legal_text, accepted_text, refusal_text}
use Rattle.twe_report.specs.Texts as texts
use Rattle.twe_io.specs.Answers.{on_err, on_out}
use Rattle.twe_io.specs.declared.answer.Answer.{Answer}
use Rattle.text_answers.specs.declared.book.Book.{Book}
use Rattle.twe_io.specs.declared.status.Status.{Status}
use Rattle.twe_io.specs.declared.status.Status.TheVariants.{Done, Refused, Fault, Stuck, BadJournal, Unfinished}
use Rattle.command_line.specs.declared.command.Command.{Command}
use Rattle.command_line.specs.declared.command.Command.TheVariants.{Check, Run, Replay, Load}
use Rattle.twe_io.specs.Codes.{is_status_done}
use Rattle.text_answers.specs.Theorem.{HasProgram, HasReplay, HasRun, HasRefusal}
use Rattle.text_answers.specs.Input.{program_text, journal_text}

-- an answer with the printed numbers on out, and this line on err
abbrev pub after_prints : Status → List ℤ → List ℕ → Answer
after_prints status prints line = record { status = status; out = prints_text prints; err = line }

-- the answer with the journal after its lines on out, if the journal is asked for
abbrev pub with_journal : Bool → Bounds → List Entry → Answer → Answer
with_journal asked lim journal answer =
    record answer { out = if asked then answer.out ++ texts.journal_part_text lim journal else answer.out }

-- The answer to the run of a load that has come to this state. If all tasks are done, it has the result of the load, and else
-- nothing on out.
abbrev pub for_load : ℕ → State → Answer → Answer
for_load n last answer =
    if is_status_done answer.status then on_out Done (texts.load_result_text n last) else on_err answer.status answer.err

-- the limits of a run, if no option gives them
abbrev pub default_limits : Bounds
default_limits = record { fuel = default_fuel; tasks = default_tasks }

-- The answer to a journal by its outcome. `last` is the state that the journal leads to, and `prints` are the numbers that
-- were printed up to the first fault.
abbrev pub AnswersRun : Program → State → List ℤ → Outcome → Answer → Type 0
AnswersRun p last prints outcomes.AllDone answer = answer ≡ on_out Done (result_text p last)
AnswersRun p last prints (outcomes.Fault task kind place) answer =
    answer ≡ after_prints Fault prints (fault_text task kind place)
AnswersRun p last prints outcomes.Stuck answer =
    (cycle : List Edge) × IsStuckCycle last cycle × IsCycleOfReasons last cycle
    × (answer ≡ after_prints Stuck prints (stuck_text cycle))
AnswersRun p last prints outcomes.Unfinished answer = answer ≡ on_err Unfinished (unfinished_text last)

-- the limits of a replay: those of the head, if the journal text has one
abbrev pub limits_with : Option Bounds → Bounds → Bounds
limits_with head lim = unwrap_or head lim

-- The answer to the journal text of a replay on an accepted program.
pub data AnswersReplay (p : Program) (lim : Bounds) (text : List ℕ) (book : Book) : Answer → Type 0 where
  -- line n is the first that is neither a head on line 1 nor a move
  not_a_move : (n : ℕ) → IsFirstBadLine text n → HasProgram p book
      → AnswersReplay p lim text book (on_err BadJournal (not_a_move_text n))
  -- each line is one, and move n is the first that is not legal
  not_legal : (head : Option Bounds) (moves : List Move) (n : ℕ) (why : Why) → Spells text head moves
      → IsFirstIllegal p (limits_with head lim) moves n why → HasProgram p book
      → AnswersReplay p lim text book (on_err BadJournal (not_legal_text (length (head_lines head) + n)))
  -- each move is legal, and the book has the replay
  replayed : (head : Option Bounds) (moves : List Move) (outcome : Outcome) {answer : Answer} → Spells text head moves
      → HasReplay p (limits_with head lim) moves outcome book
      → AnswersRun p (state_after p (limits_with head lim) book.journal)
      (state_after p (limits_with head lim) (counted book.journal)).prints outcome answer
      → AnswersReplay p lim text book answer

-- The answer to a command with this input. The book has what led to it.
pub data Due (command : Command) (text : List ℕ) (book : Book) : Answer → Type 0 where
  -- the text is refused, and the book has the refusal
  refused : (r : Refusal) → IsRefusal (program_text command text) r → HasRefusal r book
      → Due command text book (on_err Refused (refusal_text r))
  -- the text is accepted, and the book has its program
  accepted : (p : Program) → command ≡ Check → Accepted (program_text command text) p → HasProgram p book
      → Due command text book (on_out Done accepted_text)
  -- the text is accepted, and the book has a run of its program
  ran : (workers : ℕ) (lim : Bounds) (asked : Bool) (p : Program) (outcome : Outcome) (answer : Answer)
      → command ≡ Run workers lim asked → Accepted (program_text command text) p → HasRun p lim workers outcome book
      → AnswersRun p (state_after p lim book.journal) (state_after p lim (counted book.journal)).prints outcome answer
      → Due command text book (with_journal asked lim book.journal answer)
  -- the text of the load generator is accepted, and the book has a run of its program
  loaded : (workers n : ℕ) (p : Program) (outcome : Outcome) (answer : Answer) → command ≡ Load workers n
      → Accepted (program_text command text) p
      → HasRun p default_limits workers outcome book
      → AnswersRun p (state_after p default_limits book.journal)
      (state_after p default_limits (counted book.journal)).prints outcome answer
      → Due command text book (for_load n (state_after p default_limits book.journal) answer)
  -- the text is accepted, and its journal text is replayed
  replayed : (lim : Bounds) (p : Program) {answer : Answer} → command ≡ Replay lim → Accepted (program_text command text) p
      → AnswersReplay p lim (journal_text command text) book answer → Due command text book answer

-- the command with no workers; one that asks for no run stays as it is
abbrev pub without_workers : Command → Command
without_workers Check = Check
without_workers (Run workers lim asked) = Run 0 lim asked
without_workers (Replay lim) = Replay lim
without_workers (Load workers n) = Load 0 n

-- the answer to a command with this input, apart from the book
abbrev pub IsAnswerTo : Command → List ℕ → Answer → Type 0
IsAnswerTo command text answer = (book : Book) × Due command text book answer
