-- The extent of the first lexeme of a text.
use Rattle.std.specs.Prelude.{◌≡◌, ◌≤◌, not, List, ℕ, [], length, take, drop}
use Rattle.twe_lexer.specs.declared.extent.Extent.{Extent}
use Rattle.twe_lexer.specs.Lexeme.{IsFirstLexeme, IsUnclosedComment}
use Rattle.twe_lexer.specs.Places.{is_gap}

-- the text begins with a lexeme of this extent, which is not a comment without an end
pub record Begins (extent : Extent) (text : List ℕ) : Type 0 where
  pub fits : extent.len ≤ length text
  pub first : IsFirstLexeme (take extent.len text) text (drop extent.len text)
  pub class : extent.is_token ≡ not (is_gap (take extent.len text))
  pub closed : ¬ IsUnclosedComment (take extent.len text)

-- the text is a comment without an end
pub record IsUnclosed (text : List ℕ) : Type 0 where
  pub first : IsFirstLexeme text text []
  pub unclosed : IsUnclosedComment text
