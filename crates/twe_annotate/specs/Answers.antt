-- What the program answers, and why.
use Rattle.std.specs.Prelude.{◌≡◌, ℕ, List, Option, None, Some, map}
use Rattle.effect_sets.specs.declared.effects.Summary.{Summary}
use Rattle.twe_ast.specs.declared.item.Ast.{Ast}
use Rattle.twe_program.specs.Program.{Program}
use Rattle.twe_frontend.specs.declared.refusal.Refusal.{Refusal}
use Rattle.twe_report.specs.Texts.{refusal_text}
use Rattle.twe_io.specs.declared.answer.Answer.{Answer}
use Rattle.twe_io.specs.declared.status.Status.{Status}
use Rattle.twe_io.specs.declared.status.Status.TheVariants.{Done, Refused, TooLong}
use Rattle.twe_io.specs.Ends.{Ends, EndsTell, SourceTells}
use Rattle.twe_io.specs.Answers.{IsAnswered, on_err, on_out}
use Rattle.twe_frontend.specs.meaning.Meaning.{TextMeans, IsRefusedBefore}
use Rattle.twe_report.specs.Causes.{TextCause}
use Rattle.effect_infer.specs.needs.Choices.{NoRuleFails, with_summaries}
use Rattle.effect_infer.specs.Inferred.{AreEachLeast}
use Rattle.summary_texts.specs.Pasted.{IsPastedText, IsReadOtherwise, IsTooLong}
use Rattle.summary_comparing.specs.CompareTexts.{AreCompareLines}
use Rattle.summary_comparing.specs.ChainTexts.{AreNamedLines}
use Rattle.summary_comparing.specs.declared.lines.CompareLines.{CompareLines}
use Rattle.twe_annotate.specs.Compared.{compare_answer, unknown_text}
use Rattle.twe_annotate.specs.Kept.{kept_lines, long_text, otherwise_text, write_status}
use Rattle.twe_annotate.specs.Texts.{annotate_usage_text, matrix_lines}
use Rattle.twe_annotate.specs.Words.{requested_by}
use Rattle.twe_annotate.specs.declared.words.AnnotateRequest.{AnnotateRequest}
use Rattle.twe_annotate.specs.declared.words.AnnotateRequest.TheVariants.{Matrix, Write, Compare, Explain}

-- These are the least summaries of the methods that have one. If each has one, a program that keeps every rule on effects keeps
-- them with these summaries.
pub record AreLeastOf (p : Program) (each : List (Option Summary)) : Type 0 where
  pub least : AreEachLeast p each
  pub stays : (all : List Summary) → each ≡ map Some all → NoRuleFails p → NoRuleFails (with_summaries all p)

-- The answer to a text that was read. Of the rules, only those of the text and of names count.
pub data AnnotateDue (request : AnnotateRequest) (text : List ℕ) : Answer → Type 0 where
  -- the text fails one of them
  refused : (r : Refusal) → IsRefusedBefore text r → AnnotateDue request text (on_err Refused (refusal_text r))
  -- the matrix is asked for: a line for each two tasks
  planned : (tree : Ast) (p : Program) → request ≡ Matrix → TextMeans text tree p
      → AnnotateDue request text (on_out Done (matrix_lines p.regions tree.items p.tasks))
  -- the least summaries are asked for: the text with them was read again, and the methods that keep their clauses are named
  written : (tree : Ast) (p : Program) (each : List (Option Summary)) (bytes : List ℕ) → request ≡ Write
      → TextMeans text tree p → AreLeastOf p each → IsPastedText each tree text bytes
      → AnnotateDue request text (record { status = write_status each; out = bytes; err = kept_lines each tree.items })
  -- with them the text would be too long
  too_long : (tree : Ast) (p : Program) (each : List (Option Summary)) → request ≡ Write
      → TextMeans text tree p → AreLeastOf p each → IsTooLong each tree text
      → AnnotateDue request text (on_err TooLong long_text)
  -- with them it would be another text, which happens with none that is known
  otherwise : (tree : Ast) (p : Program) (each : List (Option Summary)) → request ≡ Write
      → TextMeans text tree p → AreLeastOf p each → IsReadOtherwise each tree text
      → AnnotateDue request text (on_err Refused otherwise_text)
  -- what is declared is compared with what is needed: a line for each declaration that declares more, and one for each that needs
  -- too many effects
  compared : (tree : Ast) (p : Program) (lines : CompareLines) → request ≡ Compare
      → TextMeans text tree p → AreCompareLines tree p lines
      → AnnotateDue request text (compare_answer lines)
  -- it is asked what one declaration needs: the lines on it, with a chain of calls for each need
  explained : (tree : Ast) (p : Program) (name : List ℕ) (lines : CompareLines) → request ≡ Explain name
      → TextMeans text tree p → AreNamedLines tree p name (Some lines)
      → AnnotateDue request text (compare_answer lines)
  -- no method and no task has the name that is asked about
  unknown : (tree : Ast) (p : Program) (name : List ℕ) → request ≡ Explain name
      → TextMeans text tree p → AreNamedLines tree p name None
      → AnnotateDue request text (on_err Refused (unknown_text name))

-- why the program gives an answer, before it writes anything
abbrev pub AnnotateCause : {S : Type 0} → SourceTells S → List (List ℕ) → S → S → Answer → Type 0
AnnotateCause tells words = TextCause requested_by annotate_usage_text AnnotateDue tells words

-- what a call of the program comes to: an answer that has its cause is written; or memory runs out, and nothing is written
abbrev pub AnswersAnnotate : {S O E : Type 0} → EndsTell S O E → List (List ℕ) → Ends S O E → Ends S O E → Status
    → Type 0
AnswersAnnotate tells words before after status = IsAnswered tells (AnnotateCause tells.src words) before after status
