-- A text with other summaries of its methods that was read again.
use Rattle.std.specs.Prelude.{◌≡◌, ◌≤◌, ◌<◌, ℕ, List, Option, length}
use Rattle.twe_base.specs.Language.{max_text_bytes}
use Rattle.effect_sets.specs.declared.effects.Summary.{Summary}
use Rattle.twe_ast.specs.declared.item.Ast.{Ast}
use Rattle.twe_ast.specs.declared.item.Item.{Item}
use Rattle.twe_program.specs.Program.{Program}
use Rattle.twe_names.specs.Meaning.{program_of}
use Rattle.twe_frontend.specs.declared.refusal.Refusal.{Refusal}
use Rattle.ast_printer.specs.ItemTokens.{printed_tokens}
use Rattle.twe_frontend.specs.meaning.Meaning.{IsRefusedBefore, TextMeans}
use Rattle.summary_texts.specs.Written.{HasSummaries}
use Rattle.summary_texts.specs.declared.fail.PasteFail.{PasteFail}
use Rattle.summary_texts.specs.declared.fail.PasteFail.TheVariants.{TooLong, Differs, OutOfMemory}
use Rattle.summary_texts.specs.Items.{tree_with}
use Rattle.summary_texts.specs.News.{bytes_of_news, news_of}

-- the text with these summaries of its methods, each if a text can have it: all other bytes are as they were
abbrev pub HasSummariesOf : List (Option Summary) → Ast → List ℕ → List ℕ → Type 0
HasSummariesOf each tree text written = HasSummaries (news_of (program_of tree).regions each tree.items) text written

-- the text keeps the rules of the text and those of names, and its tree is printed as this one is
pub record IsReadAgain (pasted : Ast) (written : List ℕ) : Type 0 where
  pub tree : Ast
  pub program : Program
  pub means : TextMeans written tree program
  pub alike : printed_tokens pasted ≡ printed_tokens tree

-- The text was written with these summaries of its methods, is not too long, and was read again. With the same summaries
-- written into it once more it stays as it is.
pub record IsPastedText (each : List (Option Summary)) (tree : Ast) (text written : List ℕ) : Type 0 where
  pub bytes : HasSummariesOf each tree text written
  pub short : length written ≤ max_text_bytes
  pub again : IsReadAgain (tree_with each tree) written
  pub settled : HasSummariesOf each tree written written

-- Why the text was not written: with the summaries it would be too long.
pub data IsTooLong (each : List (Option Summary)) (tree : Ast) (text : List ℕ) : Type 0 where
  -- their bytes alone are too many
  clauses : max_text_bytes < length (bytes_of_news (news_of (program_of tree).regions each tree.items)) → IsTooLong each tree text
  -- or all of its bytes
  all : (written : List ℕ) → HasSummariesOf each tree text written → max_text_bytes < length written → IsTooLong each tree text

-- Why a text is not this tree read again.
pub data IsOtherwise (pasted : Ast) (written : List ℕ) : Type 0 where
  -- a rule of the text or of names fails
  refused : (r : Refusal) → IsRefusedBefore written r → IsOtherwise pasted written
  -- or its tree is not printed as this one is
  unlike : (tree : Ast) (p : Program) → TextMeans written tree p → ¬ (printed_tokens pasted ≡ printed_tokens tree)
      → IsOtherwise pasted written

-- with the same summaries written into it once more the text changes
abbrev pub Changes : List (Option (List ℕ)) → List ℕ → Type 0
Changes news written = (twice : List ℕ) × HasSummaries news written twice × (¬ (twice ≡ written))

-- Why the text was not written: with the summaries it is something else.
pub data IsReadOtherwise (each : List (Option Summary)) (tree : Ast) (text : List ℕ) : Type 0 where
  -- it is not the tree with them read again
  otherwise : (written : List ℕ) → HasSummariesOf each tree text written → IsOtherwise (tree_with each tree) written
      → IsReadOtherwise each tree text
  -- or it changes if it is written once more
  changes : (written : List ℕ) → HasSummariesOf each tree text written
      → Changes (news_of (program_of tree).regions each tree.items) written → IsReadOtherwise each tree text

-- the cause of a failure; nothing is said of want of memory
abbrev pub PasteHasCause : List (Option Summary) → Ast → List ℕ → PasteFail → Type 0
PasteHasCause each tree text TooLong = IsTooLong each tree text
PasteHasCause each tree text Differs = IsReadOtherwise each tree text
PasteHasCause each tree text (OutOfMemory memory) = Unit {0}

-- the same where only the new bytes of summaries are made
abbrev pub NewsHaveCause : List (List ℕ) → List (Option Summary) → List Item → PasteFail → Type 0
NewsHaveCause regions each items TooLong = max_text_bytes < length (bytes_of_news (news_of regions each items))
NewsHaveCause regions each items Differs = ⊥
NewsHaveCause regions each items (OutOfMemory memory) = Unit {0}

-- and where only the written text is read
abbrev pub AgainHasCause : Ast → List ℕ → PasteFail → Type 0
AgainHasCause pasted written TooLong = ⊥
AgainHasCause pasted written Differs = IsOtherwise pasted written
AgainHasCause pasted written (OutOfMemory memory) = Unit {0}

-- and where the summaries are written into it once more
abbrev pub SettledHasCause : List (Option (List ℕ)) → List ℕ → PasteFail → Type 0
SettledHasCause news written TooLong = ⊥
SettledHasCause news written Differs = Changes news written
SettledHasCause news written (OutOfMemory memory) = Unit {0}
