-- What the program answers, and why.
use Rattle.std.specs.Prelude.{◌≡◌, ℕ, List, Option, Some, slice_get}
use Rattle.twe_ast.specs.declared.item.Ast.{Ast}
use Rattle.effect_sets.specs.declared.effects.Summary.{Summary}
use Rattle.twe_program.specs.declared.program.Decl.{Decl}
use Rattle.twe_program.specs.Program.{Program}
use Rattle.effect_infer.specs.declared.fail.InferFail.TheVariants as fails
use Rattle.effect_infer.specs.Inferred.{AreLeast, InferHasCause}
use Rattle.twe_frontend.specs.declared.refusal.Refusal.{Refusal}
use Rattle.twe_report.specs.Texts.{refusal_text}
use Rattle.twe_io.specs.declared.answer.Answer.{Answer}
use Rattle.twe_io.specs.declared.status.Status.{Status}
use Rattle.twe_io.specs.declared.status.Status.TheVariants.{Done, Refused, TooMany}
use Rattle.twe_io.specs.Ends.{Ends, EndsTell, SourceTells}
use Rattle.twe_io.specs.Answers.{IsAnswered, on_err, on_out}
use Rattle.twe_frontend.specs.meaning.Meaning.{TextMeans, IsRefusedBefore}
use Rattle.twe_report.specs.Causes.{TextCause, without_words}
use Rattle.twe_infer.specs.declared.program.Inferring.{Inferring}
use Rattle.twe_infer.specs.Texts.{summary_lines_of, infer_usage_text, too_many_text}

-- The answer to a text that was read. Of the rules, only those of the text and of names count.
pub data InferDue (text : List ℕ) : Answer → Type 0 where
  -- the text fails one of them
  refused : (r : Refusal) → IsRefusedBefore text r → InferDue text (on_err Refused (refusal_text r))
  -- a method would have more than 8 effects, and it is the first
  too_many : (tree : Ast) (p : Program) (method : ℕ) (decl : Decl) → TextMeans text tree p
      → InferHasCause p (fails.TooMany method) → slice_get p.methods method ≡ Some decl
      → InferDue text (on_err TooMany (too_many_text decl.name))
  -- each method has its least summary, and these are written
  inferred : (tree : Ast) (p : Program) (summaries : List Summary) → TextMeans text tree p → AreLeast p summaries
      → InferDue text (on_out Done (summary_lines_of p.regions summaries tree.items))

-- the program takes no words
abbrev pub infer_words : List (List ℕ) → Option Inferring
infer_words words = without_words (record {}) words

-- why the program gives an answer, before it writes anything
abbrev pub InferCause : {S : Type 0} → SourceTells S → List (List ℕ) → S → S → Answer → Type 0
InferCause tells words = TextCause infer_words infer_usage_text (λ _. InferDue) tells words

-- what a call of the program comes to: an answer that has its cause is written; or memory runs out, and nothing is written
abbrev pub AnswersInfer : {S O E : Type 0} → EndsTell S O E → List (List ℕ) → Ends S O E → Ends S O E → Status
    → Type 0
AnswersInfer tells words before after status = IsAnswered tells (InferCause tells.src words) before after status
