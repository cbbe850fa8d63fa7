-- The pieces of a text: its tokens and its comments, and where each begins.
use Rattle.std.specs.Prelude.{◌≡◌, ℕ, ◌-◌, Bool, false, List, [], ◌∷◌, length, take, codes, bytes_eq, if◌then◌else◌}
use Rattle.std.specs.List.{AllByRecursion, suffix_len}
use Rattle.twe_lexer.specs.declared.lexeme.LexemeFail.{LexemeFail}
use Rattle.twe_lexer.specs.declared.token.TokenKind.{TokenKind}
use Rattle.twe_lexer.specs.declared.token.TokenKind.TheVariants as kinds
use Rattle.twe_lexer.specs.Front.{Hinders}
use Rattle.twe_lexer.specs.Kinds.{kind_of}
use Rattle.twe_lexer.specs.Lexeme.{is_blank, is_line_end, IsUnclosedComment}
use Rattle.twe_lexer.specs.Places.{is_gap}
use Rattle.twe_lexer.specs.Tokens.{AreFirstLexemes}
use Rattle.text_pieces.specs.declared.piece.Class.{Class}
use Rattle.text_pieces.specs.declared.piece.Class.TheVariants as classes
use Rattle.text_pieces.specs.declared.piece.Piece.{Piece}
use Rattle.text_pieces.specs.declared.piece.PieceStart.{PieceStart}
use Rattle.text_pieces.specs.declared.piece.PieceStart.TheVariants.{Beside, Below, Apart}

-- a lexeme that is white space
abbrev pub is_white : List ℕ → Bool
is_white [] = false
is_white (code ∷ []) = is_blank code
is_white (first ∷ second ∷ others) = false

-- a lexeme that ends a line
abbrev pub is_line_feed : List ℕ → Bool
is_line_feed [] = false
is_line_feed (code ∷ []) = is_line_end code
is_line_feed (first ∷ second ∷ others) = false

-- where a piece begins if one more line ends before it
abbrev pub one_lower : PieceStart → PieceStart
one_lower Beside = Below
one_lower Below = Apart
one_lower Apart = Apart

-- where a piece begins after one more lexeme of white space
abbrev pub start_after : PieceStart → List ℕ → PieceStart
start_after start white = if is_line_feed white then one_lower start else start

-- a comment to the end of its line
abbrev pub begins_line_comment : List ℕ → Bool
begins_line_comment bytes = bytes_eq (take 2 bytes) (codes "//")

-- what a token is, without its value
abbrev pub class_of_kind : TokenKind → Class
class_of_kind (kinds.Name text) = classes.Name
class_of_kind (kinds.Literal value) = classes.Literal
class_of_kind (kinds.Fixed fixed) = classes.Fixed fixed
class_of_kind kinds.Stray = classes.Stray

-- what a lexeme is that is not white space
abbrev pub class_of_lexeme : List ℕ → Class
class_of_lexeme bytes =
    if is_gap bytes then (if begins_line_comment bytes then classes.LineComment else classes.BlockComment)
    else class_of_kind (kind_of bytes)

-- the bytes without the blanks at their end
abbrev pub without_last_blanks : List ℕ → List ℕ
without_last_blanks bytes = take (length bytes - suffix_len is_blank bytes) bytes

-- what is kept of a lexeme: of a comment to the end of its line all but the blanks at its end, of any other one all bytes
abbrev pub kept_bytes : List ℕ → List ℕ
kept_bytes bytes = if begins_line_comment bytes then without_last_blanks bytes else bytes

-- the piece that a lexeme is
abbrev pub piece_of : PieceStart → List ℕ → Piece
piece_of start bytes = record { bytes = kept_bytes bytes; class = class_of_lexeme bytes; start = start }

-- the pieces among these lexemes; `start` is where a piece begins that comes first
abbrev pub pieces_from : PieceStart → List (List ℕ) → List Piece
pieces_from start [] = []
pieces_from start (first ∷ others) =
    if is_white first then pieces_from (start_after start first) others
    else (piece_of start first ∷ pieces_from Beside others)

-- the text consists of lexemes, none of them a comment without an end, and these are the pieces among them
pub record IsCutInto (text : List ℕ) (pieces : List Piece) : Type 0 where
  pub lexemes : List (List ℕ)
  pub cut : AreFirstLexemes lexemes text []
  pub closed : AllByRecursion (λ lexeme. ¬ IsUnclosedComment lexeme) lexemes
  pub same : pieces ≡ pieces_from Beside lexemes

-- Why a text has no pieces: what hinders the lexeme that comes after the first ones.
pub record StopsCut (fail : LexemeFail) (text : List ℕ) : Type 0 where
  pub lexemes : List (List ℕ)
  pub rest : List ℕ
  pub cut : AreFirstLexemes lexemes text rest
  pub here : Hinders fail rest
