-- A command that asks for no workers, or for one, has one answer to an input.
use Rattle.std.proofs.Common.{◌≡◌, ◌≤◌, ◌+◌, ℕ, ℤ, List, length, Option, None, Some, refl, sym, ap, ◌∙◌, subst}
use Rattle.std.proofs.lemmas.Option.{none-some, same_Some}
use Rattle.wait_graph.specs.declared.stuck.Edge.{Edge}
use Rattle.seg_journal.specs.declared.journal.Entry.{Entry}
use Rattle.seg_journal.specs.declared.moves.Move.{Move}
use Rattle.seg_journal.specs.Spelling.{Spells, head_lines}
use Rattle.seg_journal.proofs.BadLines.{none_bad, one_first_bad}
use Rattle.seg_journal.proofs.OneSpelling.{one_journal}
use Rattle.twe_base.specs.Limits.{Bounds}
use Rattle.twe_program.specs.Program.{Program}
use Rattle.twe_frontend.specs.declared.refusal.Refusal.{Refusal}
use Rattle.twe_frontend.specs.Accepted.{Accepted, IsRefusal}
use Rattle.machine_state.specs.declared.ending.Outcome.{Outcome}
use Rattle.machine_state.specs.declared.ending.Outcome.TheVariants.{AllDone, Fault, Stuck, Unfinished}
use Rattle.machine_state.specs.declared.why.Why.{Why}
use Rattle.machine_state.specs.declared.state.FirstFault.{FirstFault}
use Rattle.machine_state.specs.declared.state.State.{State}
use Rattle.machine_state.specs.LowestFirst.{LowestFirst}
use Rattle.machine_state.specs.Moves.{start_of}
use Rattle.machine_state.specs.Replays.{IsFirstIllegal}
use Rattle.machine_state.specs.Runs.{IsOutcome, counted, state_after}
use Rattle.machine_state.proofs.replays.Replayed.{never_both, one_first, one_from}
use Rattle.flat_sched.proofs.Holders.{one_cycle}
use Rattle.twe_report.specs.Texts as texts
use Rattle.command_line.specs.declared.command.Command.{Command}
use Rattle.command_line.specs.declared.command.Command.TheVariants.{Check, Run, Replay, Load}
use Rattle.command_line.specs.Words.{workers_of}
use Rattle.twe_io.specs.declared.answer.Answer.{Answer}
use Rattle.text_answers.specs.declared.book.Book.{Book}
use Rattle.twe_io.specs.declared.status.Status.TheVariants as statuses
use Rattle.twe_io.specs.Answers.{on_err, on_out}
use Rattle.text_answers.specs.Answers.{AnswersReplay, AnswersRun, Due, IsAnswerTo, after_prints, default_limits, for_load, limits_with, with_journal}
use Rattle.text_answers.specs.Input.{journal_text, program_text}
use Rattle.text_answers.specs.Theorem.{HasReplay, HasRun}

-- A state has one outcome, and an outcome one answer.

not_both : (st : State) (fault : FirstFault) → st.first_fault ≡ None → st.first_fault ≡ Some fault → ⊥
not_both st fault none some = none-some fault (sym none ∙ some)

pub one_outcome : (st : State) (a b : Outcome) → IsOutcome st a → IsOutcome st b → a ≡ b
one_outcome st AllDone AllDone x y = refl
one_outcome st AllDone (Fault task kind place) x y = absurd (not_both st _ x.0 y)
one_outcome st AllDone Stuck x y = absurd (y.1 x.1)
one_outcome st AllDone Unfinished x y = absurd (y.1 x.1)
one_outcome st (Fault task kind place) AllDone x y = absurd (not_both st _ y.0 x)
one_outcome st (Fault task kind place) (Fault other sort spot) x y =
    let one : FirstFault = record { task = task; kind = kind; place = place } in
    let two : FirstFault = record { task = other; kind = sort; place = spot } in
    let same : one ≡ two = same_Some one two (sym x ∙ y) in
    λ i. Fault (same i).task (same i).kind (same i).place
one_outcome st (Fault task kind place) Stuck x y = absurd (not_both st _ y.0 x)
one_outcome st (Fault task kind place) Unfinished x y = absurd (not_both st _ y.0 x)
one_outcome st Stuck AllDone x y = absurd (x.1 y.1)
one_outcome st Stuck (Fault task kind place) x y = absurd (not_both st _ x.0 y)
one_outcome st Stuck Stuck x y = refl
one_outcome st Stuck Unfinished x y = absurd (x.2 y.2.0 y.2.1)
one_outcome st Unfinished AllDone x y = absurd (x.1 y.1)
one_outcome st Unfinished (Fault task kind place) x y = absurd (not_both st _ x.0 y)
one_outcome st Unfinished Stuck x y = absurd (y.2 x.2.0 x.2.1)
one_outcome st Unfinished Unfinished x y = refl

pub one_answer : (p : Program) (st : State) (prints : List ℤ) (outcome : Outcome) (a b : Answer) → AnswersRun p st prints outcome a → AnswersRun p st prints outcome b → a ≡ b
one_answer p st prints AllDone a b x y = x ∙ sym y
one_answer p st prints (Fault task kind place) a b x y = x ∙ sym y
one_answer p st prints Stuck a b x y =
    x.3 ∙ (ap (λ (cycle : List Edge). after_prints statuses.Stuck prints (texts.stuck_text cycle)) (one_cycle st x.0 y.0 x.1 y.1) ∙ sym y.3)
one_answer p st prints Unfinished a b x y = x ∙ sym y

-- Two books that have the same journal, or the same moves.

-- what a book with this journal has for an answer, without the journal
abbrev Answers : Program → Bounds → List Entry → Outcome → Answer → Type 0
Answers p lim journal outcome answer = AnswersRun p (state_after p lim journal) (state_after p lim (counted journal)).prints outcome answer

same_journal : (p : Program) (lim : Bounds) (journal second : List Entry) (outcome other : Outcome) (a b : Answer) → journal ≡ second
    → IsOutcome (state_after p lim journal) outcome → IsOutcome (state_after p lim second) other → Answers p lim journal outcome a → Answers p lim second other b → a ≡ b
same_journal p lim journal second outcome other a b same ends others x y =
    let ended : IsOutcome (state_after p lim second) outcome = subst (λ (es : List Entry). IsOutcome (state_after p lim es) outcome) same ends in
    let is : outcome ≡ other = one_outcome (state_after p lim second) outcome other ended others in
    one_answer p (state_after p lim second) (state_after p lim (counted second)).prints other a b
    (subst (λ (o : Outcome). Answers p lim second o a) is (subst (λ (es : List Entry). Answers p lim es outcome a) same x)) y

never_illegal : {A : Type 0} (p : Program) (lim : Bounds) (text : List ℕ) (book : Book) (head others : Option Bounds) (moves more : List Move) (n : ℕ) (why : Why) (outcome : Outcome)
    → Spells text head moves → Spells text others more → IsFirstIllegal p (limits_with head lim) moves n why → HasReplay p (limits_with others lim) more outcome book → A
never_illegal p lim text book head others moves more n why outcome spells spelled first had =
    let same = one_journal head others moves more text spells spelled in
    let moved : IsFirstIllegal p (limits_with others lim) more n why =
    subst (λ (h : Option Bounds). IsFirstIllegal p (limits_with h lim) more n why) same.0 (subst (λ (ms : List Move). IsFirstIllegal p (limits_with head lim) ms n why) same.1 first) in
    absurd (never_both p (limits_with others lim) more n why (book.journal, had.has.legal, had.replays) moved)

one_replay : (p : Program) (lim : Bounds) (text : List ℕ) (book second : Book) (a b : Answer) → AnswersReplay p lim text book a → AnswersReplay p lim text second b → a ≡ b
one_replay p lim text book second a b (AnswersReplay.not_a_move n bad has) (AnswersReplay.not_a_move m other had) =
    ap (λ (k : ℕ). on_err statuses.BadJournal (texts.not_a_move_text k)) (one_first_bad text n m bad other)
one_replay p lim text book second a b (AnswersReplay.not_a_move n bad has) (AnswersReplay.not_legal head moves m why spells first had) =
    absurd (none_bad text head moves n spells bad)
one_replay p lim text book second a b (AnswersReplay.not_a_move n bad has) (AnswersReplay.replayed head moves outcome spells had answers) =
    absurd (none_bad text head moves n spells bad)
one_replay p lim text book second a b (AnswersReplay.not_legal head moves m why spells first had) (AnswersReplay.not_a_move n bad has) =
    absurd (none_bad text head moves n spells bad)
one_replay p lim text book second a b (AnswersReplay.replayed head moves outcome spells had answers) (AnswersReplay.not_a_move n bad has) =
    absurd (none_bad text head moves n spells bad)
one_replay p lim text book second a b (AnswersReplay.not_legal head moves n why spells first has) (AnswersReplay.not_legal others more m reason spelled second_first had) =
    let same = one_journal head others moves more text spells spelled in
    let moved : IsFirstIllegal p (limits_with others lim) more n why =
    subst (λ (h : Option Bounds). IsFirstIllegal p (limits_with h lim) more n why) same.0 (subst (λ (ms : List Move). IsFirstIllegal p (limits_with head lim) ms n why) same.1 first) in
    let number : n ≡ m = (one_first p (limits_with others lim) more n m why reason moved second_first).0 in
    λ i. on_err statuses.BadJournal (texts.not_legal_text (length (head_lines (same.0 i)) + number i))
one_replay p lim text book second a b (AnswersReplay.not_legal head moves n why spells first has) (AnswersReplay.replayed others more outcome spelled had answers) =
    never_illegal p lim text second head others moves more n why outcome spells spelled first had
one_replay p lim text book second a b (AnswersReplay.replayed others more outcome spelled had answers) (AnswersReplay.not_legal head moves n why spells first has) =
    never_illegal p lim text book head others moves more n why outcome spells spelled first had
one_replay p lim text book second a b (AnswersReplay.replayed head moves outcome spells has answers) (AnswersReplay.replayed others more other spelled had said) =
    let same = one_journal head others moves more text spells spelled in
    let here = subst (λ (h : Option Bounds). HasReplay p (limits_with h lim) moves outcome book) same.0 has in
    let journal : book.journal ≡ second.journal =
    one_from p (limits_with others lim) (start_of p (limits_with others lim)) book.journal second.journal here.has.legal had.has.legal (here.replays ∙ same.1 ∙ sym had.replays) in
    same_journal p (limits_with others lim) book.journal second.journal outcome other a b journal here.has.ended had.has.ended
    (subst (λ (h : Option Bounds). Answers p (limits_with h lim) book.journal outcome a) same.0 answers) said

-- What an accepted program has for an answer, command by command.

abbrev AcceptedAnswer : Command → Program → List ℕ → Answer → Type 0
AcceptedAnswer Check p input answer = answer ≡ on_out statuses.Done texts.accepted_text
AcceptedAnswer (Run workers lim asked) p input answer =
    (book : Book) × (outcome : Outcome) × (plain : Answer) × HasRun p lim workers outcome book × Answers p lim book.journal outcome plain
    × (answer ≡ with_journal asked lim book.journal plain)
AcceptedAnswer (Replay lim) p input answer = (book : Book) × AnswersReplay p lim (journal_text (Replay lim) input) book answer
AcceptedAnswer (Load workers n) p input answer =
    (book : Book) × (outcome : Outcome) × (plain : Answer) × HasRun p default_limits workers outcome book × Answers p default_limits book.journal outcome plain
    × (answer ≡ for_load n (state_after p default_limits book.journal) plain)

-- two runs by one worker at most have one journal, so one answer
one_run : (p : Program) (lim : Bounds) (workers : ℕ) (book second : Book) (outcome other : Outcome) (a b : Answer) → workers ≤ 1
    → ((p : Program) (lim : Bounds) (journal other : List Entry) → LowestFirst p lim journal → LowestFirst p lim other → journal ≡ other)
    → HasRun p lim workers outcome book → HasRun p lim workers other second → Answers p lim book.journal outcome a → Answers p lim second.journal other b
    → (book.journal ≡ second.journal) × (a ≡ b)
one_run p lim workers book second outcome other a b alone one_lowest x y said answers =
    let journal = one_lowest p lim book.journal second.journal (x.lowest alone) (y.lowest alone) in
    (journal, same_journal p lim book.journal second.journal outcome other a b journal x.has.ended y.has.ended said answers)

module _ (one_program : (text : List ℕ) (p other : Program) → Accepted text p → Accepted text other → p ≡ other)
    (one_refusal : (text : List ℕ) (refusal other : Refusal) → IsRefusal text refusal → IsRefusal text other → refusal ≡ other)
    (not_refused : (text : List ℕ) (p : Program) (refusal : Refusal) → Accepted text p → ¬ IsRefusal text refusal)
    (one_lowest : (p : Program) (lim : Bounds) (journal other : List Entry) → LowestFirst p lim journal → LowestFirst p lim other → journal ≡ other) where
  one_accepted : (command : Command) (p : Program) (input : List ℕ) (a b : Answer) → workers_of command ≤ 1 → AcceptedAnswer command p input a → AcceptedAnswer command p input b → a ≡ b
  one_accepted Check p input a b alone x y = x ∙ sym y
  one_accepted (Run workers lim asked) p input a b alone x y =
      let same = one_run p lim workers x.0 y.0 x.1 y.1 x.2 y.2 alone one_lowest x.3 y.3 x.4 y.4 in
      x.5 ∙ (λ i. with_journal asked lim (same.0 i) (same.1 i)) ∙ sym y.5
  one_accepted (Replay lim) p input a b alone x y = one_replay p lim (journal_text (Replay lim) input) x.0 y.0 a b x.1 y.1
  one_accepted (Load workers n) p input a b alone x y =
      let same = one_run p default_limits workers x.0 y.0 x.1 y.1 x.2 y.2 alone one_lowest x.3 y.3 x.4 y.4 in
      x.5 ∙ (λ i. for_load n (state_after p default_limits (same.0 i)) (same.1 i)) ∙ sym y.5

  -- the answer to an accepted text
  accepted_answer : (command : Command) (input : List ℕ) (p : Program) (book : Book) (a : Answer) → Accepted (program_text command input) p → Due command input book a
      → AcceptedAnswer command p input a
  accepted_answer command input p book a accepted (Due.refused r is has) = absurd (not_refused (program_text command input) p r accepted is)
  accepted_answer command input p book a accepted (Due.accepted q same is has) = subst (λ (c : Command). AcceptedAnswer c p input (on_out statuses.Done texts.accepted_text)) (sym same) refl
  accepted_answer command input p book a accepted (Due.ran workers lim asked q outcome plain same is has answers) =
      let answer = with_journal asked lim book.journal plain in
      subst (λ (c : Command). AcceptedAnswer c p input answer) (sym same)
      (subst (λ (r : Program). AcceptedAnswer (Run workers lim asked) r input answer) (one_program (program_text command input) q p is accepted)
      (book, outcome, plain, has, answers, refl))
  accepted_answer command input p book a accepted (Due.loaded workers n q outcome plain same is has answers) =
      let answer = for_load n (state_after q default_limits book.journal) plain in
      subst (λ (c : Command). AcceptedAnswer c p input answer) (sym same)
      (subst (λ (r : Program). AcceptedAnswer (Load workers n) r input answer) (one_program (program_text command input) q p is accepted)
      (book, outcome, plain, has, answers, refl))
  accepted_answer command input p book a accepted (Due.replayed lim q same is answers) =
      subst (λ (c : Command). AcceptedAnswer c p input a) (sym same)
      (subst (λ (r : Program). AcceptedAnswer (Replay lim) r input a) (one_program (program_text command input) q p is accepted)
      (book, subst (λ (c : Command). AnswersReplay q lim (journal_text c input) book a) same answers))

  -- the answer to a refused text
  refused_answer : (command : Command) (input : List ℕ) (r : Refusal) (book : Book) (a : Answer) → IsRefusal (program_text command input) r → Due command input book a
      → a ≡ on_err statuses.Refused (texts.refusal_text r)
  refused_answer command input r book a is (Due.refused s other has) =
      ap (λ (k : Refusal). on_err statuses.Refused (texts.refusal_text k)) (one_refusal (program_text command input) s r other is)
  refused_answer command input r book a is (Due.accepted q same accepted has) = absurd (not_refused (program_text command input) q r accepted is)
  refused_answer command input r book a is (Due.ran workers lim asked q outcome plain same accepted has answers) = absurd (not_refused (program_text command input) q r accepted is)
  refused_answer command input r book a is (Due.loaded workers n q outcome plain same accepted has answers) = absurd (not_refused (program_text command input) q r accepted is)
  refused_answer command input r book a is (Due.replayed lim q same accepted answers) = absurd (not_refused (program_text command input) q r accepted is)

  -- the second answer, if the text of the first is accepted
  once_accepted : (command : Command) (input : List ℕ) (p : Program) (book second : Book) (a b : Answer) → workers_of command ≤ 1 → Accepted (program_text command input) p
      → Due command input book a → Due command input second b → a ≡ b
  once_accepted command input p book second a b alone accepted due other =
      one_accepted command p input a b alone (accepted_answer command input p book a accepted due) (accepted_answer command input p second b accepted other)

  one_due : (command : Command) (input : List ℕ) (book second : Book) (a b : Answer) → workers_of command ≤ 1 → Due command input book a → Due command input second b → a ≡ b
  one_due command input book second a b alone (Due.refused r is has) other = sym (refused_answer command input r second b is other)
  one_due command input book second a b alone (Due.accepted q same accepted has) other =
      once_accepted command input q book second a b alone accepted (Due.accepted q same accepted has) other
  one_due command input book second a b alone (Due.ran workers lim asked q outcome plain same accepted has answers) other =
      once_accepted command input q book second _ b alone accepted (Due.ran workers lim asked q outcome plain same accepted has answers) other
  one_due command input book second a b alone (Due.loaded workers n q outcome plain same accepted has answers) other =
      once_accepted command input q book second _ b alone accepted (Due.loaded workers n q outcome plain same accepted has answers) other
  one_due command input book second a b alone (Due.replayed lim q same accepted answers) other =
      once_accepted command input q book second a b alone accepted (Due.replayed lim q same accepted answers) other

  pub one_answer_to : (command : Command) (input : List ℕ) (a b : Answer) → workers_of command ≤ 1 → IsAnswerTo command input a → IsAnswerTo command input b → a ≡ b
  one_answer_to command input a b alone x y = one_due command input x.0 y.0 a b alone x.1 y.1
