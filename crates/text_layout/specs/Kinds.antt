-- The tokens among the pieces of a text.
use Rattle.std.specs.Prelude.{◌≡◌, ℕ, List, [], ◌∷◌, map, if◌then◌else◌}
use Rattle.twe_lexer.specs.declared.token.Token.{Token}
use Rattle.twe_lexer.specs.declared.token.TokenKind.{TokenKind}
use Rattle.twe_lexer.specs.Kinds.{kind_of}
use Rattle.twe_lexer.specs.Tokens.{BeginsWith}
use Rattle.text_pieces.specs.declared.piece.Piece.{Piece}
use Rattle.text_layout.specs.Classes.{is_comment_class}

-- the kinds and values of the tokens among the pieces
abbrev pub piece_kinds : List Piece → List TokenKind
piece_kinds [] = []
piece_kinds (piece ∷ pieces) =
    if is_comment_class piece.class then piece_kinds pieces else (kind_of piece.bytes ∷ piece_kinds pieces)

-- The tokens of the text, to its end, have these kinds and values.
pub record HasKinds (text : List ℕ) (kinds : List TokenKind) : Type 0 where
  pub tokens : List Token
  pub cut : BeginsWith text tokens []
  pub same : map (λ token. token.kind) tokens ≡ kinds
