-- What the program answers, and why.
use Rattle.std.specs.Prelude.{◌≡◌, ℕ, ◌<◌, ◌≤◌, List, [], length, bytes_eq, if◌then◌else◌}
use Rattle.twe_base.specs.Language.{max_text_bytes}
use Rattle.twe_ast.specs.declared.item.Ast.{Ast}
use Rattle.ast_printer.specs.ParsesAgain.{ParsesAgain}
use Rattle.text_layout.specs.InLayout.{IsInLayout}
use Rattle.twe_frontend.specs.declared.refusal.Refusal.{Refusal}
use Rattle.twe_frontend.specs.Accepted.{IsTreeOf}
use Rattle.twe_frontend.specs.Reads.{IsTextFailure}
use Rattle.twe_report.specs.Texts.{refusal_text}
use Rattle.twe_report.specs.Causes.{TextCause}
use Rattle.twe_io.specs.declared.answer.Answer.{Answer}
use Rattle.twe_io.specs.declared.status.Status.{Status}
use Rattle.twe_io.specs.declared.status.Status.TheVariants.{Done, Refused, TooLong}
use Rattle.twe_io.specs.Ends.{Ends, EndsTell, SourceTells}
use Rattle.twe_io.specs.Answers.{IsAnswered, on_err, on_out}
use Rattle.twe_format.specs.declared.words.FormatRequest.{FormatRequest}
use Rattle.twe_format.specs.declared.words.FormatRequest.TheVariants.{Write, Check}
use Rattle.twe_format.specs.Words.{format_request, format_usage_text, long_layout_text}
use Rattle.twe_format.specs.Differences.{differing_lines}

-- The text has this tree, and this is the text in its layout: it has the same tree, except for the places in it.
pub record HasLayout (text : List ℕ) (tree : Ast) (laid : List ℕ) : Type 0 where
  pub parsed : IsTreeOf text tree
  pub laid_out : IsInLayout text laid
  pub again : ParsesAgain laid tree

-- the answer to a text whose lines are compared with those of its layout: status 0 if the text is its layout, and else the lines
-- that differ, with status 1
abbrev pub check_answer : List ℕ → List ℕ → Answer
check_answer text laid = if bytes_eq text laid then on_out Done [] else on_out Refused (differing_lines text laid)

-- The answer to a text that was read. Of the rules, only those of the text count.
pub data FormatDue (request : FormatRequest) (text : List ℕ) : Answer → Type 0 where
  -- the text fails one of them
  refused : (r : Refusal) → IsTextFailure text r.rule r.place → FormatDue request text (on_err Refused (refusal_text r))
  -- in its layout it would have more bytes than a text may have
  too_long : (tree : Ast) (laid : List ℕ) → HasLayout text tree laid → max_text_bytes < length laid
      → FormatDue request text (on_err TooLong long_layout_text)
  -- it is written in its layout
  written : (tree : Ast) (laid : List ℕ) → request ≡ Write → HasLayout text tree laid → length laid ≤ max_text_bytes
      → FormatDue request text (on_out Done laid)
  -- its lines are compared with those of its layout
  checked : (tree : Ast) (laid : List ℕ) → request ≡ Check → HasLayout text tree laid → length laid ≤ max_text_bytes
      → FormatDue request text (check_answer text laid)

-- why the program gives an answer, before it writes anything
abbrev pub FormatCause : {S : Type 0} → SourceTells S → List (List ℕ) → S → S → Answer → Type 0
FormatCause tells words = TextCause format_request format_usage_text FormatDue tells words

-- what a call of the program comes to: an answer that has its cause is written; or memory runs out, and nothing is written
abbrev pub AnswersFormat : {S O E : Type 0} → EndsTell S O E → List (List ℕ) → Ends S O E → Ends S O E → Status
    → Type 0
AnswersFormat tells words before after status = IsAnswered tells (FormatCause tells.src words) before after status
