-- The answers to every input with an accepted program and some journal.
use Rattle.std.specs.Prelude.{◌≡◌, true, ℕ, List}
use Rattle.seg_journal.specs.declared.moves.Move.{Move}
use Rattle.seg_journal.specs.declared.text.JournalText.{JournalText}
use Rattle.seg_journal.specs.Spelling.{Spells}
use Rattle.twe_base.specs.Limits.{Bounds}
use Rattle.twe_frontend.specs.Accepted.{Accepted}
use Rattle.twe_program.specs.Program.{Program}
use Rattle.text_answers.specs.Input.{has_mark, journal_part, program_part}
use Rattle.twe_io.specs.declared.answer.Answer.{Answer}
use Rattle.text_answers.specs.Due.{JournalDue}

-- the answer to each input with this program and this journal text
abbrev pub DueToJournal : (Program → Bounds → List Move → Answer → Type 0) → Program → List ℕ → Answer → Type 0
DueToJournal Gives p journal answer =
    (input : List ℕ) → Accepted (program_part input) p → has_mark input ≡ true → journal ≡ journal_part input
    → JournalDue Gives input answer

-- the answer to each input with this program in whose journal text this was found
abbrev pub DueToFound : (Program → Bounds → List Move → Answer → Type 0) → Program → JournalText → Answer → Type 0
DueToFound Gives p found answer =
    (input : List ℕ) → Accepted (program_part input) p → has_mark input ≡ true
    → Spells (journal_part input) found.head found.moves
    → JournalDue Gives input answer
