-- Why a program that reads one text gives an answer.
use Rattle.std.specs.Prelude.{◌≡◌, ℕ, List, [], ◌∷◌, Option, None, Some, Ok, bytes_eq, if◌then◌else◌}
use Rattle.twe_io.specs.declared.answer.Answer.{Answer}
use Rattle.twe_io.specs.declared.status.Status.TheVariants.{Usage}
use Rattle.twe_io.specs.Answers.{on_err}
use Rattle.twe_io.specs.Ends.{SourceTells, WasRead}
use Rattle.twe_report.specs.Reading.{FailedRead}

-- a program that takes no words is asked for by none
abbrev pub without_words : {W : Type 0} → W → List (List ℕ) → Option W
without_words program [] = Some program
without_words program (first ∷ others) = None

-- no words ask for one thing, and this word alone for another
abbrev pub by_word : {W : Type 0} → W → List ℕ → W → List (List ℕ) → Option W
by_word plain name named [] = Some plain
by_word plain name named (word ∷ []) = if bytes_eq word name then Some named else None
by_word plain name named (word ∷ next ∷ others) = None

-- Why the program gives an answer, before it writes anything. `asked` says what words ask for, `usage` is the usage line, and
-- `Due` says which answer is due to a text if the words ask for this.
pub data TextCause {W : Type 0} (asked : List (List ℕ) → Option W) (usage : List ℕ) (Due : W → List ℕ → Answer → Type 0)
    {S : Type 0} (tells : SourceTells S) (words : List (List ℕ)) (before after : S) : Answer → Type 0 where
  -- the words ask for nothing that the program does, and nothing is read
  not_asked : asked words ≡ None → after ≡ before
      → TextCause asked usage Due tells words before after (on_err Usage usage)
  -- a read failed, or the source has more bytes than a text may have
  not_read : {answer : Answer} (wanted : W) → asked words ≡ Some wanted → FailedRead tells before after answer
      → TextCause asked usage Due tells words before after answer
  -- the source gave a text, and this is the answer to it
  text : {answer : Answer} (wanted : W) (bytes : List ℕ) → asked words ≡ Some wanted
      → WasRead tells before (Ok bytes) after → Due wanted bytes answer
      → TextCause asked usage Due tells words before after answer
