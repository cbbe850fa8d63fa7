-- The first lexeme of a text.
use Rattle.std.specs.Prelude.{◌≡◌, ℕ, ◌<◌, ◌≤◌, false, List, length, take, drop, slice_index, IsTrue}
use Rattle.std.specs.List.{list_all}
use Rattle.twe_lexer.specs.declared.lexeme.Lexeme.{Lexeme}
use Rattle.twe_lexer.specs.declared.lexeme.LexemeFail.{LexemeFail}
use Rattle.twe_lexer.specs.declared.lexeme.LexemeFail.TheVariants as fails
use Rattle.twe_lexer.specs.Kinds.{token_kind}
use Rattle.twe_lexer.specs.Lexeme.{is_allowed, IsFirstLexeme, IsUnclosedComment}

-- the text begins with this lexeme: all of its bytes are allowed, and it is not a comment without an end
pub record Opens (lexeme : Lexeme) (text : List ℕ) : Type 0 where
  pub fits : lexeme.len ≤ length text
  pub first : IsFirstLexeme (take lexeme.len text) text (drop lexeme.len text)
  pub allowed : IsTrue (list_all is_allowed (take lexeme.len text))
  pub closed : ¬ IsUnclosedComment (take lexeme.len text)
  pub token : lexeme.token ≡ token_kind (take lexeme.len text)

-- The first byte that is not allowed is at this index, within the first lexeme, which is not a comment without an end.
pub record StopsAt (at : ℕ) (text : List ℕ) : Type 0 where
  pub bytes : List ℕ
  pub rest : List ℕ
  pub first : IsFirstLexeme bytes text rest
  pub closed : ¬ IsUnclosedComment bytes
  pub within : at < length bytes
  pub before : IsTrue (list_all is_allowed (take at text))
  pub here : is_allowed (slice_index text at) ≡ false

-- why the text has no such lexeme
abbrev pub Hinders : LexemeFail → List ℕ → Type 0
Hinders (fails.NotAllowed at) text = StopsAt at text
Hinders fails.Unclosed text = IsUnclosedComment text
Hinders (fails.OutOfMemory memory) text = Unit {0}
