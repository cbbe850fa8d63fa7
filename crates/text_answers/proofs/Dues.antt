-- From what is known of a run and of the reply to it to what is due.
use Rattle.std.proofs.Common.{◌≡◌, ◌≤◌, ℕ, Bool, List, Result, Ok, Err, Some, IfOk, refl, sym, ap, ◌∙◌, subst}
use Rattle.std.proofs.lemmas.Option.{none-some, same_Some}
use Rattle.twe_base.specs.declared.memory.Memory as out_of
use Rattle.seg_journal.specs.declared.journal.Entry.{Entry}
use Rattle.twe_base.specs.Limits.{Bounds}
use Rattle.twe_program.specs.Program.{Program}
use Rattle.twe_frontend.specs.Accepted.{Accepted}
use Rattle.machine_state.specs.declared.state.State.{State}
use Rattle.machine_state.specs.LowestFirst.{IsOver, LowestFirst}
use Rattle.machine_state.specs.Runs.{Legal, counted, state_after}
use Rattle.flat_sched.specs.RunEnds.{IsRunEnd, outcome_of}
use Rattle.flat_sched.specs.declared.ending.WholeRun.{WholeRun}
use Rattle.flat_sched.proofs.RunEnds.{is_outcome}
use Rattle.command_line.specs.Words.{workers_of}
use Rattle.command_line.specs.declared.command.Command.{Command}
use Rattle.command_line.specs.declared.command.Command.TheVariants.{Check, Run, Replay, Load}
use Rattle.twe_io.specs.declared.answer.Answer.{Answer}
use Rattle.text_answers.specs.declared.asked.AskedRun.{AskedRun}
use Rattle.text_answers.specs.declared.asked.Report.TheVariants.{OfRun, OfLoad}
use Rattle.text_answers.specs.declared.book.Reply.{Reply}
use Rattle.text_answers.specs.Answers.{AnswersRun, Due, IsAnswerTo, default_limits, for_load, with_journal}
use Rattle.text_answers.specs.Input.{program_text}
use Rattle.text_answers.specs.Running.{IsDueForRun, IsWholeRun, asked_of}
use Rattle.text_answers.specs.Theorem.{HasRun}
use Rattle.text_answers.specs.inner.Given.{IsReplyTo, IsReplyToRun, reported}

-- The run of a program that is asked for, and the reply to it.
module _ (p : Program) (run : WholeRun) (plain : Reply) where
  -- the book has the run
  has_run : (asked : AskedRun) → IsWholeRun p asked run → IsReplyToRun p asked.limits run plain → HasRun p asked.limits asked.workers (outcome_of run.end) plain.book
  has_run asked whole is = record {
    has = is.has;
    lowest = λ few. subst (LowestFirst p asked.limits) (sym is.kept) (whole.lowest few);
    over = whole.over (outcome_of run.end) (is_outcome run.state run.end whole.ends);
  }

  -- the answer is one to the journal in the book
  answers : (lim : Bounds) → IsReplyToRun p lim run plain
      → AnswersRun p (state_after p lim plain.book.journal) (state_after p lim (counted plain.book.journal)).prints (outcome_of run.end) plain.answer
  answers lim is =
      subst (λ (journal : List Entry). AnswersRun p (state_after p lim journal) (state_after p lim (counted journal)).prints (outcome_of run.end) plain.answer)
      (sym is.kept) is.answers

  ran : (workers : ℕ) (lim : Bounds) (wanted : Bool) (input : List ℕ) (answer : Answer)
      → IsWholeRun p (record { workers = workers; limits = lim; report = OfRun wanted }) run → IsReplyToRun p lim run plain
      → answer ≡ with_journal wanted lim run.journal plain.answer → Accepted input p → Due (Run workers lim wanted) input plain.book answer
  ran workers lim wanted input answer whole is same accepted =
      let asked : AskedRun = record { workers = workers; limits = lim; report = OfRun wanted } in
      subst (Due (Run workers lim wanted) input plain.book)
      (sym (same ∙ ap (λ (journal : List Entry). with_journal wanted lim journal plain.answer) (sym is.kept)))
      (Due.ran workers lim wanted p (outcome_of run.end) plain.answer refl accepted (has_run asked whole is) (answers lim is))

  loaded : (workers n : ℕ) (input : List ℕ) (answer : Answer)
      → IsWholeRun p (record { workers = workers; limits = default_limits; report = OfLoad n }) run → IsReplyToRun p default_limits run plain
      → answer ≡ for_load n run.state plain.answer → Accepted (program_text (Load workers n) input) p → Due (Load workers n) input plain.book answer
  loaded workers n input answer whole is same accepted =
      let asked : AskedRun = record { workers = workers; limits = default_limits; report = OfLoad n } in
      let last = whole.state ∙ ap (λ (journal : List Entry). state_after p default_limits journal) (sym is.kept) in
      subst (Due (Load workers n) input plain.book) (sym (same ∙ ap (λ (st : State). for_load n st plain.answer) last))
      (Due.loaded workers n p (outcome_of run.end) plain.answer refl accepted (has_run asked whole is) (answers default_limits is))

  -- what is due, by the command that asks for the run
  due : (asked : AskedRun) (answer : Answer) → IsWholeRun p asked run → IsReplyToRun p asked.limits run plain
      → answer ≡ reported asked run.state run.journal plain.answer → (command : Command) (input : List ℕ) → asked_of command ≡ Some asked
      → Accepted (program_text command input) p → Due command input plain.book answer
  due asked answer whole is same Check input asks accepted = absurd (none-some asked asks)
  due asked answer whole is same (Run workers lim wanted) input asks accepted =
      subst (λ (a : AskedRun). IsWholeRun p a run → IsReplyToRun p a.limits run plain → answer ≡ reported a run.state run.journal plain.answer
      → Due (Run workers lim wanted) input plain.book answer)
      (same_Some (record { workers = workers; limits = lim; report = OfRun wanted }) asked asks)
      (λ whole is same. ran workers lim wanted input answer whole is same accepted) whole is same
  due asked answer whole is same (Replay lim) input asks accepted = absurd (none-some asked asks)
  due asked answer whole is same (Load workers n) input asks accepted =
      subst (λ (a : AskedRun). IsWholeRun p a run → IsReplyToRun p a.limits run plain → answer ≡ reported a run.state run.journal plain.answer
      → Due (Load workers n) input plain.book answer)
      (same_Some (record { workers = workers; limits = default_limits; report = OfLoad n }) asked asks)
      (λ whole is same. loaded workers n input answer whole is same accepted) whole is same

-- the reply to the run that is asked for
pub due_for_run : (asked : AskedRun) (p : Program) (run : WholeRun) (plain reply : Reply) → IsWholeRun p asked run → IsReplyToRun p asked.limits run plain
    → reply.book ≡ plain.book → reply.answer ≡ reported asked run.state run.journal plain.answer → IsDueForRun asked p reply
due_for_run asked p run plain reply whole is book same = λ command input asks accepted.
    subst (λ b. Due command input b reply.answer) (sym book) (due p run plain asked reply.answer whole is same command input asks accepted)

-- the reply to a run of the program of an accepted text
pub due_of_run : (cmd : Command) (input : List ℕ) (p : Program) (asked : AskedRun) (reply : Reply) → asked_of cmd ≡ Some asked → Accepted (program_text cmd input) p
    → IsDueForRun asked p reply → IsAnswerTo cmd input reply.answer
due_of_run cmd input p asked reply asks accepted due = (reply.book, due cmd input asks accepted)

-- a command that asks for a run asks for as many workers
pub as_many : (cmd : Command) (asked : AskedRun) → asked_of cmd ≡ Some asked → asked.workers ≡ workers_of cmd
as_many Check asked asks = absurd (none-some asked asks)
as_many (Run workers lim wanted) asked asks =
    sym (ap (λ (a : AskedRun). a.workers) (same_Some (record { workers = workers; limits = lim; report = OfRun wanted }) asked asks))
as_many (Replay lim) asked asks = absurd (none-some asked asks)
as_many (Load workers n) asked asks =
    sym (ap (λ (a : AskedRun). a.workers) (same_Some (record { workers = workers; limits = default_limits; report = OfLoad n }) asked asks))

-- a run that is over and has ended so is one that is asked for, if it is the lowest-first one whenever one worker at most is
pub whole_run : (p : Program) (asked : AskedRun) (made : Result WholeRun out_of.Memory) → IfOk made (λ run. Legal p asked.limits run.journal)
    → IfOk made (λ run. run.state ≡ state_after p asked.limits run.journal) → IfOk made (λ run. IsOver run.state) → IfOk made (λ run. IsRunEnd run.state run.end)
    → (asked.workers ≤ 1 → IfOk made (λ run. LowestFirst p asked.limits run.journal)) → IfOk made (IsWholeRun p asked)
whole_run p asked (Ok run) legal state over ends lowest = record { legal = legal; state = state; over = over; ends = ends; lowest = lowest }
whole_run p asked (Err e) legal state over ends lowest = tt
