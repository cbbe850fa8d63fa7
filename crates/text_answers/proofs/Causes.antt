-- From what the parts of a call ensure to the cause of its answer.
use Rattle.std.proofs.Common.{◌≡◌, ◌+◌, ap, length, true, ℕ, List, Result, Ok, Err, IfOk, sym, ◌∙◌, subst}
use Rattle.twe_base.specs.declared.memory.Memory as out_of
use Rattle.twe_base.specs.Limits.{Bounds}
use Rattle.seg_journal.specs.declared.moves.Move.{Move}
use Rattle.seg_journal.specs.declared.text.JournalText.{JournalText}
use Rattle.seg_journal.specs.Lines.{IsFirstBadLine}
use Rattle.seg_journal.specs.Spelling.{Spells, head_lines}
use Rattle.machine_state.specs.declared.why.Why.{Why}
use Rattle.machine_state.specs.Replays.{IsFirstIllegal}
use Rattle.twe_frontend.specs.Accepted.{Accepted}
use Rattle.twe_program.specs.Program.{Program}
use Rattle.text_answers.specs.Answers.{default_limits, limits_with}
use Rattle.text_answers.specs.Input.{has_mark, journal_part, program_part}
use Rattle.twe_report.specs.Texts.{not_a_move_text, not_legal_text}
use Rattle.twe_io.specs.declared.answer.Answer.{Answer}
use Rattle.twe_io.specs.declared.status.Status.TheVariants.{BadJournal}
use Rattle.twe_io.specs.Answers.{on_err}
use Rattle.text_answers.specs.Due.{JournalDue}
use Rattle.text_answers.specs.inner.GivenToPrograms.{DueToFound, DueToJournal}

-- the limits of the head, or the default ones
abbrev LimitedBy : JournalText → Bounds → Type 0
LimitedBy found lim = lim ≡ limits_with found.head default_limits

module _ (Gives : Program → Bounds → List Move → Answer → Type 0) where
  -- the answer to every input with this program and this journal is the answer to one of them
  pub due_accepted : (input journal : List ℕ) (p : Program) (made : Result Answer out_of.Memory) → Accepted (program_part input) p → has_mark input ≡ true → journal ≡ journal_part input
      → IfOk made (DueToJournal Gives p journal) → IfOk made (JournalDue Gives input)
  due_accepted input journal p (Err e) accepted marked after answers = tt
  due_accepted input journal p (Ok a) accepted marked after answers = answers input accepted marked after

  -- what was found in a journal text was found in each input that has it
  pub due_found : (p : Program) (journal : List ℕ) (found : JournalText) (made : Result Answer out_of.Memory) → Spells journal found.head found.moves → IfOk made (DueToFound Gives p found)
      → IfOk made (DueToJournal Gives p journal)
  due_found p journal found (Err e) spelled answers = tt
  due_found p journal found (Ok a) spelled answers = λ input accepted marked same. answers input accepted marked (subst (λ (l : List ℕ). Spells l found.head found.moves) same spelled)

  -- a line that is no move is named
  pub due_bad_line : (p : Program) (journal : List ℕ) (n : ℕ) (answer : Answer) → IsFirstBadLine journal n → answer ≡ on_err BadJournal (not_a_move_text n) → DueToJournal Gives p journal answer
  due_bad_line p journal n answer bad is input accepted marked same =
      subst (JournalDue Gives input) (sym is) (JournalDue.not_a_move p n accepted marked (subst (λ (l : List ℕ). IsFirstBadLine l n) same bad))

  -- legal moves have their answer
  pub due_given : (p : Program) (found : JournalText) (lim : Bounds) (moves : List Move) (answer : Answer) → LimitedBy found lim → moves ≡ found.moves → Gives p lim moves answer
      → DueToFound Gives p found answer
  due_given p found lim moves answer limits all given input accepted marked spelled =
      JournalDue.given p found.head found.moves accepted marked spelled
      (subst (λ (l : List Move). Gives p (limits_with found.head default_limits) l answer) all (subst (λ (b : Bounds). Gives p b moves answer) limits given))

  -- or the first that is not legal is named
  pub due_not_legal : (p : Program) (found : JournalText) (lim : Bounds) (moves : List Move) (n line : ℕ) (why : Why) (answer : Answer) → LimitedBy found lim → moves ≡ found.moves
      → IsFirstIllegal p lim moves n why → line ≡ length (head_lines found.head) + n → answer ≡ on_err BadJournal (not_legal_text line) → DueToFound Gives p found answer
  due_not_legal p found lim moves n line why answer limits all first number is input accepted marked spelled =
      subst (JournalDue Gives input) (sym (is ∙ ap (λ (m : ℕ). on_err BadJournal (not_legal_text m)) number))
      (JournalDue.not_legal p found.head found.moves n why accepted marked spelled
      (subst (λ (l : List Move). IsFirstIllegal p (limits_with found.head default_limits) l n why) all (subst (λ (b : Bounds). IsFirstIllegal p b moves n why) limits first)))
