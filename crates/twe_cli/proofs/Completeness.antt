-- If nothing fails outside, a command has one of its statuses.
use Rattle.std.proofs.Common.{◌≡◌, ◌≢◌, ◌<◌, ◌+◌, IfSome, inl, inr, ℕ, ℤ, List, [], ◌∷◌, length, cond, Option, None, Some, refl, sym, ap, ◌∙◌, subst, arith, true≢false}
use Rattle.std.proofs.lemmas.Option.{none-some, same_Some}
use Rattle.std.proofs.lemmas.List.{length-append}
use Rattle.twe_io.specs.Faults.{Rose}
use Rattle.twe_io.specs.Told.{Gives}
use Rattle.twe_base.specs.Language.{max_text_bytes}
use Rattle.twe_base.specs.Limits.{Bounds}
use Rattle.twe_program.specs.Program.{Program}
use Rattle.twe_frontend.specs.declared.refusal.Refusal.{Refusal}
use Rattle.twe_frontend.specs.Accepted.{Accepted, IsRefusal}
use Rattle.machine_state.specs.declared.ending.Outcome.{Outcome}
use Rattle.machine_state.specs.declared.ending.Outcome.TheVariants as outcomes
use Rattle.machine_state.specs.declared.state.State.{State}
use Rattle.machine_state.specs.Runs.{state_after}
use Rattle.command_line.specs.Words.{IsMeaning, Means}
use Rattle.command_line.specs.declared.command.Command.{Command}
use Rattle.command_line.specs.declared.command.Command.TheVariants.{Check, Run, Replay, Load}
use Rattle.twe_io.specs.declared.answer.Answer.{Answer}
use Rattle.text_answers.specs.declared.book.Book.{Book}
use Rattle.twe_io.specs.declared.status.Status.{Status}
use Rattle.twe_io.specs.declared.status.Status.TheVariants.{Done, Refused, Usage, Fault, Stuck, ReadFault, WriteFault, Memory}
use Rattle.twe_io.specs.declared.status.Status.TheVariants.{TooLong, BadJournal, Unfinished, TooMany}
use Rattle.twe_io.specs.Answers.{IsAnswered, Tells, on_err, on_out}
use Rattle.text_answers.specs.Answers.{AnswersReplay, AnswersRun, Due, default_limits, for_load}
use Rattle.text_answers.specs.Causes.{Answers, Cause}
use Rattle.twe_io.specs.Codes.{is_status_done}
use Rattle.twe_report.specs.Reading.{FailedRead}
use Rattle.twe_report.specs.Texts as texts
use Rattle.twe_cli.specs.Complete.{Completes, IsOneOf, IsComplete, IsInputFor, IsStatusOfReads, statuses_of}
use Rattle.twe_io.specs.Ends.{Ends, EndsTell, SourceTells}
use Rattle.text_answers.specs.Input.{program_text}

-- the statuses of runs
abbrev RunStatuses : List Status
RunStatuses = Done ∷ Fault ∷ Stuck ∷ Memory ∷ []

ran_status : (p : Program) (st : State) (prints : List ℤ) (outcome : Outcome) (answer : Answer) → AnswersRun p st prints outcome answer → outcome ≢ outcomes.Unfinished
    → IsOneOf answer.status RunStatuses
ran_status p st prints outcomes.AllDone answer is over = inl (ap (λ (a : Answer). a.status) is)
ran_status p st prints (outcomes.Fault task kind place) answer is over = inr (inl (ap (λ (a : Answer). a.status) is))
ran_status p st prints outcomes.Stuck answer is over = inr (inr (inl (ap (λ (a : Answer). a.status) is.3)))
ran_status p st prints outcomes.Unfinished answer is over = absurd (over refl)

replayed_status : (p : Program) (st : State) (prints : List ℤ) (outcome : Outcome) (answer : Answer) → AnswersRun p st prints outcome answer
    → IsOneOf answer.status (Done ∷ Fault ∷ Stuck ∷ Memory ∷ BadJournal ∷ Unfinished ∷ [])
replayed_status p st prints outcomes.AllDone answer is = inl (ap (λ (a : Answer). a.status) is)
replayed_status p st prints (outcomes.Fault task kind place) answer is = inr (inl (ap (λ (a : Answer). a.status) is))
replayed_status p st prints outcomes.Stuck answer is = inr (inr (inl (ap (λ (a : Answer). a.status) is.3)))
replayed_status p st prints outcomes.Unfinished answer is = inr (inr (inr (inr (inr (inl (ap (λ (a : Answer). a.status) is))))))

-- a load keeps the status of its run
load_keeps : (n : ℕ) (st : State) (status : Status) (answer : Answer) → (cond (is_status_done status) (on_out Done (texts.load_result_text n st)) (on_err status answer.err)).status ≡ status
load_keeps n st Done answer = refl
load_keeps n st Refused answer = refl
load_keeps n st Usage answer = refl
load_keeps n st Fault answer = refl
load_keeps n st Stuck answer = refl
load_keeps n st ReadFault answer = refl
load_keeps n st WriteFault answer = refl
load_keeps n st Memory answer = refl
load_keeps n st TooLong answer = refl
load_keeps n st BadJournal answer = refl
load_keeps n st Unfinished answer = refl
load_keeps n st TooMany answer = refl

replay_status : (p : Program) (lim : Bounds) (text : List ℕ) (book : Book) (answer : Answer) → AnswersReplay p lim text book answer
    → IsOneOf answer.status (Done ∷ Fault ∷ Stuck ∷ Memory ∷ BadJournal ∷ Unfinished ∷ [])
replay_status p lim text book answer (AnswersReplay.not_a_move n bad has) = inr (inr (inr (inr (inl refl))))
replay_status p lim text book answer (AnswersReplay.not_legal head moves n why spells first has) = inr (inr (inr (inr (inl refl))))
replay_status p lim text book answer (AnswersReplay.replayed head moves outcome spells has answers) = replayed_status p _ _ outcome answer answers

-- the source had more bytes than it was allowed to give
too_many : (before after : Option (List ℕ)) (input : List ℕ) (n : ℕ) → before ≡ Some input → IfSome before (λ _. Gives before after n) → length input < n → ⊥
too_many None after input n left gives short = absurd (none-some input left)
too_many (Some xs) None input n left gives short = gives.1
too_many (Some xs) (Some ys) input n left gives short =
    absurd (omega (arith, short, ap (λ (zs : List ℕ). length zs) (sym (same_Some xs input left) ∙ gives.1), length-append gives.0 ys, gives.2))

-- the text is all that was left
whole_is : (before : Option (List ℕ)) (bytes input : List ℕ) → before ≡ Some input → IfSome before (λ left. bytes ≡ left) → bytes ≡ input
whole_is None bytes input left is = absurd (none-some input left)
whole_is (Some xs) bytes input left is = is ∙ same_Some xs input left

memory_among : (command : Command) → IsOneOf Memory (statuses_of command)
memory_among Check = inr (inl refl)
memory_among (Run workers lim asked) = inr (inr (inr (inl refl)))
memory_among (Replay lim) = inr (inr (inr (inl refl)))
memory_among (Load workers n) = inr (inr (inr (inl refl)))

-- the words mean at most one command
abbrev pub OneMeaning : List (List ℕ) → Type 0
OneMeaning words = (command other : Command) → Means words command → Means words other → command ≡ other

module _ (not_refused : (text : List ℕ) (p : Program) (refusal : Refusal) → Accepted text p → ¬ IsRefusal text refusal) where
  due_refused : (command : Command) (input : List ℕ) (book : Book) (answer : Answer) (r : Refusal) → IsRefusal (program_text command input) r → Due command input book answer
      → answer.status ≡ Refused
  due_refused command input book answer r is (Due.refused other so has) = refl
  due_refused command input book answer r is (Due.accepted p same accepted has) = absurd (not_refused (program_text command input) p r accepted is)
  due_refused command input book answer r is (Due.ran workers lim asked p outcome plain same accepted has answers) = absurd (not_refused (program_text command input) p r accepted is)
  due_refused command input book answer r is (Due.loaded workers n p outcome plain same accepted has answers) = absurd (not_refused (program_text command input) p r accepted is)
  due_refused command input book answer r is (Due.replayed lim p same accepted answers) = absurd (not_refused (program_text command input) p r accepted is)

  due_accepted : (command : Command) (input : List ℕ) (book : Book) (answer : Answer) (p : Program) → Accepted (program_text command input) p → Due command input book answer
      → IsOneOf answer.status (statuses_of command)
  due_accepted command input book answer p accepted (Due.refused r is has) = absurd (not_refused (program_text command input) p r accepted is)
  due_accepted command input book answer p accepted (Due.accepted q same is has) = subst (λ (c : Command). IsOneOf Done (statuses_of c)) (sym same) (inl refl)
  due_accepted command input book answer p accepted (Due.ran workers lim asked q outcome plain same is has answers) =
      subst (λ (c : Command). IsOneOf plain.status (statuses_of c)) (sym same) (ran_status q _ _ outcome plain answers has.over)
  due_accepted command input book answer p accepted (Due.loaded workers n q outcome plain same is has answers) =
      let last = state_after q default_limits book.journal in
      subst (λ (c : Command). IsOneOf (for_load n last plain).status (statuses_of c)) (sym same)
      (subst (λ (s : Status). IsOneOf s RunStatuses) (sym (load_keeps n last plain.status plain)) (ran_status q last _ outcome plain answers has.over))
  due_accepted command input book answer p accepted (Due.replayed lim q same is answers) =
      subst (λ (c : Command). IsOneOf answer.status (statuses_of c)) (sym same) (replay_status q lim _ book answer answers)

  due_complete : (command : Command) (input : List ℕ) (book : Book) (answer : Answer) → Due command input book answer → IsComplete command input answer.status
  due_complete command input book answer due = record {
    refused = λ r is. inl (due_refused command input book answer r is due);
    accepted = λ p is. due_accepted command input book answer p is due;
  }

  -- a load has the same text whatever the input
  load_complete : (workers n : ℕ) (input : List ℕ) (status : Status) → IsComplete (Load workers n) [] status → IsComplete (Load workers n) input status
  load_complete workers n input status c = record { refused = c.refused; accepted = c.accepted }

  cause_complete : {S : Type 0} (tells : SourceTells S) (command : Command) (before after : S) (book : Book) (answer : Answer) (input : List ℕ)
      → Cause tells command before after book answer → ¬ Rose (tells.faults before) (tells.faults after) → IsInputFor tells command input before
      → IsComplete command input answer.status
  cause_complete tells command before after book answer input (Cause.not_read has (FailedRead.read_fault was) new) calm is = absurd (calm was.told)
  cause_complete tells command before after book answer input (Cause.not_read has (FailedRead.too_long was) new) calm is =
      let short = is.short has in
      absurd (too_many (tells.left before) (tells.left after) input (max_text_bytes + 1) (is.content has) was.told (omega (arith, short)))
  cause_complete tells command before after book answer input (Cause.text bytes has was due) calm is =
      let text : bytes ≡ input = whole_is (tells.left before) bytes input (is.content has) was.told.0 in
      subst (λ (t : List ℕ). IsComplete command t answer.status) text (due_complete command bytes book answer due)
  cause_complete tells command before after book answer input (Cause.no_input workers n same nothing never due) calm is =
      subst (λ (c : Command). IsComplete c input answer.status) (sym same)
      (load_complete workers n input answer.status (due_complete (Load workers n) [] book answer due))

  -- the status of an answer, by what was read for it
  status_of_reads : {S : Type 0} (tells : SourceTells S) (command : Command) (before after : S) (book : Book) (answer : Answer)
      → Cause tells command before after book answer → ¬ Rose (tells.faults before) (tells.faults after)
      → IsStatusOfReads tells command before after answer.status
  status_of_reads tells command before after book answer (Cause.not_read has (FailedRead.read_fault was) new) calm = absurd (calm was.told)
  status_of_reads tells command before after book answer (Cause.not_read has (FailedRead.too_long was) new) calm = IsStatusOfReads.too_long has was
  status_of_reads tells command before after book answer (Cause.text bytes has was due) calm =
      IsStatusOfReads.of_input bytes (λ _. was) (due_complete command bytes book answer due)
  status_of_reads tells command before after book answer (Cause.no_input workers n same nothing never due) calm =
      subst (λ (c : Command). IsStatusOfReads tells c before after answer.status) (sym same)
      (IsStatusOfReads.of_input [] (λ has. absurd (true≢false (sym has))) (due_complete (Load workers n) [] book answer due))

  -- the status of a call that was answered
  pub complete : {S O E : Type 0} (tells : EndsTell S O E) (command : Command) (before after : Ends S O E) (book : Book) (status : Status)
      → IsAnswered tells (λ from to answer. Cause tells.src command from to book answer) before after status
      → Completes tells command before after status
  complete tells command before after book status (IsAnswered.out_of_memory a b) = record {
    of_reads = λ calm. IsStatusOfReads.out_of_memory;
    of_content = λ input calm is. record { refused = λ r is. inr (inl refl); accepted = λ p is. memory_among command };
  }
  complete tells command before after book status (IsAnswered.answered {answer} cause (Tells.told a b)) = record {
    of_reads = λ calm. status_of_reads tells.src command before.src after.src book answer cause calm.no_read;
    of_content = λ input calm is. cause_complete tells.src command before.src after.src book answer input cause calm.no_read is;
  }
  complete tells command before after book status (IsAnswered.answered cause (Tells.out_broke_off a b)) = record {
    of_reads = λ calm. absurd (calm.no_out a.fault);
    of_content = λ input calm is. absurd (calm.no_out a.fault);
  }
  complete tells command before after book status (IsAnswered.answered cause (Tells.err_broke_off a b)) = record {
    of_reads = λ calm. absurd (calm.no_err b.fault);
    of_content = λ input calm is. absurd (calm.no_err b.fault);
  }

  -- the same, of the command that the words mean
  pub completes : {S O E : Type 0} (tells : EndsTell S O E) (words : List (List ℕ)) (usage : List ℕ) (before after : Ends S O E) (book : Book) (status : Status)
      → OneMeaning words → (meaning : Option Command) → IsMeaning words meaning → Answers tells usage meaning before after book status
      → (command : Command) → Means words command → Completes tells command before after status
  completes tells words usage before after book status one None none answers command means = absurd (none command means)
  completes tells words usage before after book status one (Some given) is answers command means =
      subst (λ (c : Command). Completes tells c before after status) (one given command is means) (complete tells given before after book status answers)
