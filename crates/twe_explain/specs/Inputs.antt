-- What the program answers to an input, and why.
use Rattle.std.specs.Prelude.{◌≡◌, ℕ, Bool, List, None, Some, false, true}
use Rattle.text_answers.specs.Input.{has_mark, journal_part, program_part}
use Rattle.twe_report.specs.Causes.{TextCause}
use Rattle.twe_io.specs.declared.answer.Answer.{Answer}
use Rattle.twe_io.specs.declared.status.Status.{Status}
use Rattle.twe_io.specs.declared.status.Status.TheVariants.{Done}
use Rattle.twe_io.specs.Ends.{Ends, EndsTell, SourceTells}
use Rattle.twe_io.specs.Answers.{IsAnswered, on_out}
use Rattle.refusal_notes.specs.AllFailures.{AskedDue}
use Rattle.twe_frontend.specs.Accepted.{Accepted, IsRefusal}
use Rattle.twe_frontend.specs.declared.refusal.Refusal.{Refusal}
use Rattle.twe_program.specs.Program.{Program}
use Rattle.run_notes.specs.Journals.{JournalTold}
use Rattle.twe_explain.specs.Alone.{explain_usage_text, text_alone}
use Rattle.twe_base.specs.Limits.{Bounds}
use Rattle.twe_explain.specs.Runs.{RunDue}
use Rattle.twe_explain.specs.Words.{wish_of}
use Rattle.twe_explain.specs.declared.words.Wish.{Wish}
use Rattle.explain_pages.specs.declared.wanted.Wanted.{Wanted}

-- the answer to a text and a journal: if the text is refused, as without a journal
pub data PartsDue (all : Bool) (wanted : Wanted) (text journal : List ℕ) : Answer → Type 0 where
  refused : {answer : Answer} (r : Refusal) → IsRefusal text r → AskedDue all wanted text answer
      → PartsDue all wanted text journal answer
  accepted : {answer : Answer} (p : Program) → Accepted text p → JournalTold wanted text p journal answer
      → PartsDue all wanted text journal answer

-- The answer to an input that was read, if all failures are wanted or the first one. All of it is on out.
pub data InputDue (all : Bool) (wanted : Wanted) (input : List ℕ) : Answer → Type 0 where
  -- no line is exactly `%%`, and the input is a text; the status is that of `twe check`
  whole : {answer : Answer} → has_mark input ≡ false → AskedDue all wanted input answer → InputDue all wanted input answer
  -- after the first line that is exactly `%%` comes a journal; the status is that of `twe replay`
  parts : {answer : Answer} → has_mark input ≡ true → PartsDue all wanted (program_part input) (journal_part input) answer
      → InputDue all wanted input answer

-- The answer to an input, if this is asked for: a run of the text that it is, or what `InputDue` says.
pub data WishDue (wish : Wish) (input : List ℕ) : Answer → Type 0 where
  unrun : {answer : Answer} → wish.run ≡ None → InputDue wish.all wish.wanted input answer → WishDue wish input answer
  run : {answer : Answer} (lim : Bounds) → wish.run ≡ Some lim → RunDue wish.all wish.wanted input lim answer
      → WishDue wish input answer

-- Why the program gives an answer, before it writes anything.
pub data ExplainCause {S : Type 0} (tells : SourceTells S) (words : List (List ℕ)) (before after : S) : Answer → Type 0 where
  -- the words ask for a text by themselves, and nothing is read
  alone : (text : List ℕ) → text_alone words ≡ Some text → after ≡ before
      → ExplainCause tells words before after (on_out Done text)
  -- they ask for the answer to a text, or for nothing that the program does
  of_text : {answer : Answer} → text_alone words ≡ None
      → TextCause wish_of explain_usage_text WishDue tells words before after answer
      → ExplainCause tells words before after answer

-- what a call of the program comes to: an answer that has its cause is written; or memory runs out, and nothing is written
abbrev pub AnswersExplain : {S O E : Type 0} → EndsTell S O E → List (List ℕ) → Ends S O E → Ends S O E → Status
    → Type 0
AnswersExplain tells words before after status = IsAnswered tells (ExplainCause tells.src words) before after status
