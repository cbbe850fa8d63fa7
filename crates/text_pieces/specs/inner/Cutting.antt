-- A text of which a part was cut.
use Rattle.std.specs.Prelude.{◌≡◌, ℕ, List, ◌++◌}
use Rattle.std.specs.List.{AllByRecursion}
use Rattle.twe_lexer.specs.Lexeme.{IsUnclosedComment}
use Rattle.twe_lexer.specs.Tokens.{AreFirstLexemes}
use Rattle.text_pieces.specs.declared.piece.Piece.{Piece}
use Rattle.text_pieces.specs.declared.piece.PieceStart.{PieceStart}
use Rattle.text_pieces.specs.declared.piece.PieceStart.TheVariants.{Beside}
use Rattle.text_pieces.specs.Pieces.{pieces_from}

-- the pieces of the text up to the rest; the next one begins at `start`
pub record HasCut (text : List ℕ) (pieces : List Piece) (start : PieceStart) (rest : List ℕ) : Type 0 where
  pub lexemes : List (List ℕ)
  pub cut : AreFirstLexemes lexemes text rest
  pub closed : AllByRecursion (λ lexeme. ¬ IsUnclosedComment lexeme) lexemes
  pub sofar : (more : List (List ℕ)) → pieces_from Beside (lexemes ++ more) ≡ pieces ++ pieces_from start more
