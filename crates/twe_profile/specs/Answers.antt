-- What the program answers, and why.
use Rattle.std.specs.Prelude.{ℕ, List, Option}
use Rattle.seg_journal.specs.declared.moves.Move.{Move}
use Rattle.twe_base.specs.Limits.{Bounds}
use Rattle.twe_program.specs.Program.{Program}
use Rattle.twe_io.specs.Ends.{Ends, EndsTell, SourceTells}
use Rattle.twe_io.specs.Answers.{IsAnswered, on_out}
use Rattle.span_profile.specs.Profiles.{IsProfile}
use Rattle.twe_io.specs.declared.answer.Answer.{Answer}
use Rattle.twe_io.specs.declared.status.Status.{Status}
use Rattle.twe_io.specs.declared.status.Status.TheVariants.{Done}
use Rattle.twe_report.specs.Causes.{TextCause, without_words}
use Rattle.text_answers.specs.Due.{JournalDue}
use Rattle.twe_profile.specs.declared.program.Profiling.{Profiling}
use Rattle.twe_profile.specs.Texts.{profile_text, profile_usage_text}

-- The answer to legal moves of an accepted program under these limits.
pub data ProfileGiven (p : Program) (lim : Bounds) (moves : List Move) : Answer → Type 0 where
  -- their profile is written
  profiled : (work span : ℕ) (chain : List ℕ) → IsProfile p lim moves work span chain
      → ProfileGiven p lim moves (on_out Done (profile_text work span chain))

-- the answer to an input: the text of a program, and after the first line that is exactly `%%` the text of a journal
abbrev pub ProfileDue : List ℕ → Answer → Type 0
ProfileDue input = JournalDue ProfileGiven input

-- the program takes no words
abbrev pub profile_words : List (List ℕ) → Option Profiling
profile_words words = without_words (record {}) words

-- why the program gives an answer, before it writes anything
abbrev pub ProfileCause : {S : Type 0} → SourceTells S → List (List ℕ) → S → S → Answer → Type 0
ProfileCause tells words = TextCause profile_words profile_usage_text (λ _. ProfileDue) tells words

-- what a call of the program comes to: an answer that has its cause is written; or memory runs out, and nothing is written
abbrev pub AnswersProfile : {S O E : Type 0} → EndsTell S O E → List (List ℕ) → Ends S O E → Ends S O E → Status
    → Type 0
AnswersProfile tells words before after status = IsAnswered tells (ProfileCause tells.src words) before after status
