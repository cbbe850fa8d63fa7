-- The answer to a text and a journal.
use Rattle.std.specs.Prelude.{◌≡◌, ◌+◌, true, ℕ, List, Option, codes, length}
use Rattle.seg_journal.specs.declared.moves.Move.{Move}
use Rattle.seg_journal.specs.Lines.{IsFirstBadLine}
use Rattle.seg_journal.specs.Spelling.{Spells, head_lines}
use Rattle.twe_base.specs.Limits.{Bounds}
use Rattle.twe_program.specs.Program.{Program}
use Rattle.twe_frontend.specs.Accepted.{Accepted, IsRefusal}
use Rattle.twe_frontend.specs.declared.refusal.Refusal.{Refusal}
use Rattle.machine_state.specs.declared.why.Why.{Why}
use Rattle.machine_state.specs.Replays.{IsFirstIllegal}
use Rattle.twe_report.specs.Texts.{not_a_move_text, not_legal_text, refusal_text}
use Rattle.text_answers.specs.Answers.{default_limits, limits_with}
use Rattle.text_answers.specs.Input.{HasNoMark, has_mark, journal_part, program_part}
use Rattle.twe_io.specs.Answers.{on_err}
use Rattle.twe_io.specs.declared.answer.Answer.{Answer}
use Rattle.twe_io.specs.declared.status.Status.TheVariants.{Refused, BadJournal}

-- the line for an input that has no journal
abbrev pub no_journal_text : List ℕ
no_journal_text = codes "there is no journal\n"

-- The answer to an input: to the text of a program, and after the first line that is exactly `%%` the text of a journal. `Gives`
-- says which answer is due to legal moves. The limits are those of the journal's head, or the default ones.
pub data JournalDue (Gives : Program → Bounds → List Move → Answer → Type 0) (input : List ℕ) : Answer → Type 0 where
  -- the text of the program is refused
  refused : (r : Refusal) → IsRefusal (program_part input) r → JournalDue Gives input (on_err Refused (refusal_text r))
  -- the program is accepted, and no line is exactly `%%`
  no_journal : (p : Program) → Accepted (program_part input) p → HasNoMark input
      → JournalDue Gives input (on_err BadJournal no_journal_text)
  -- line n of the journal is the first that is neither a head on line 1 nor a move
  not_a_move : (p : Program) (n : ℕ) → Accepted (program_part input) p → has_mark input ≡ true
      → IsFirstBadLine (journal_part input) n
      → JournalDue Gives input (on_err BadJournal (not_a_move_text n))
  -- each line is one, and move n is the first that is not legal
  not_legal : (p : Program) (head : Option Bounds) (moves : List Move) (n : ℕ) (why : Why)
      → Accepted (program_part input) p → has_mark input ≡ true → Spells (journal_part input) head moves
      → IsFirstIllegal p (limits_with head default_limits) moves n why
      → JournalDue Gives input (on_err BadJournal (not_legal_text (length (head_lines head) + n)))
  -- the program is accepted, there is a journal, each move is legal, and this is the answer to them
  given : {answer : Answer} (p : Program) (head : Option Bounds) (moves : List Move)
      → Accepted (program_part input) p → has_mark input ≡ true → Spells (journal_part input) head moves
      → Gives p (limits_with head default_limits) moves answer
      → JournalDue Gives input answer
