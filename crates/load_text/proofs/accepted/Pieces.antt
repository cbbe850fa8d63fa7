-- A text as pieces: tokens, and the blanks between them.
use Rattle.std.proofs.Common.{◌≡◌, ℕ, Bool, true, false, ◌&&◌, ◌||◌, not, List, [], ◌∷◌, ◌++◌, ◌<◌, refl, sym, ap, ◌∙◌, append_assoc}
use Rattle.std.specs.Prelude.{if◌then◌else◌}
use Rattle.twe_lexer.specs.declared.fixed.Fixed.{Fixed}
use Rattle.twe_lexer.specs.declared.fixed.Fixed.TheVariants as fixed
use Rattle.twe_lexer.specs.declared.token.TokenKind.{TokenKind}
use Rattle.twe_lexer.specs.declared.token.TokenKind.TheVariants as kinds
use Rattle.twe_lexer.specs.Lexeme.{is_word_byte, is_word}
use Rattle.twe_lexer.specs.Spelling.{spelling}
use Rattle.ast_printer.specs.Text.{bytes_of}
use Rattle.ast_printer.proofs.Alone.{ReadAlone}

pub data Piece : Type 0 where
  space : Piece
  line_end : Piece
  token : (kind : TokenKind) → Piece

abbrev pub piece_bytes : Piece → List ℕ
piece_bytes space = 32 ∷ []
piece_bytes line_end = 10 ∷ []
piece_bytes (token kind) = bytes_of kind

abbrev pub piece_kinds : Piece → List TokenKind
piece_kinds space = []
piece_kinds line_end = []
piece_kinds (token kind) = kind ∷ []

abbrev pub pieces_text : List Piece → List ℕ
pieces_text [] = []
pieces_text (piece ∷ pieces) = piece_bytes piece ++ pieces_text pieces

abbrev pub pieces_kinds : List Piece → List TokenKind
pieces_kinds [] = []
pieces_kinds (piece ∷ pieces) = piece_kinds piece ++ pieces_kinds pieces

abbrev pub pieces_lexemes : List Piece → List (List ℕ)
pieces_lexemes [] = []
pieces_lexemes (piece ∷ pieces) = piece_bytes piece ∷ pieces_lexemes pieces

pub text_append : (one other : List Piece) → pieces_text (one ++ other) ≡ pieces_text one ++ pieces_text other
text_append [] other = refl
text_append (piece ∷ one) other = ap (λ more. piece_bytes piece ++ more) (text_append one other)
    ∙ sym (append_assoc (piece_bytes piece) (pieces_text one) (pieces_text other))

-- the bytes begin with none of a word
abbrev pub begins_apart : List ℕ → Bool
begins_apart [] = false
begins_apart (first ∷ others) = not (is_word_byte first)

abbrev pub is_gap_piece : Piece → Bool
is_gap_piece space = true
is_gap_piece line_end = true
is_gap_piece (token kind) = false

-- a word or a number ends before this piece
abbrev pub ends_word : Piece → Bool
ends_word space = true
ends_word line_end = true
ends_word (token (kinds.Fixed f)) = begins_apart (spelling f)
ends_word (token _) = false

-- a symbol of one byte, whatever stands after it
abbrev pub is_lone : Fixed → Bool
is_lone fixed.Comma = true
is_lone fixed.Semicolon = true
is_lone fixed.Colon = true
is_lone fixed.Dot = true
is_lone fixed.OpenBracket = true
is_lone fixed.CloseBracket = true
is_lone fixed.OpenParen = true
is_lone fixed.CloseParen = true
is_lone fixed.OpenBrace = true
is_lone fixed.CloseBrace = true
is_lone fixed.Star = true
is_lone fixed.Plus = true
is_lone _ = false

abbrev pub is_assign : Fixed → Bool
is_assign fixed.Assign = true
is_assign _ = false

-- a keyword or a symbol ends before this piece
abbrev pub joins_fixed : Fixed → Piece → Bool
joins_fixed f next = if is_word (spelling f) then ends_word next else if is_lone f then true else (is_assign f && is_gap_piece next)

abbrev pub joins : Piece → Piece → Bool
joins space next = true
joins line_end next = true
joins (token (kinds.Fixed f)) next = joins_fixed f next
joins (token kinds.Stray) next = false
joins (token _) next = ends_word next

-- at the end of a text there is a blank
abbrev pub joins_all : Piece → List Piece → Bool
joins_all piece [] = is_gap_piece piece
joins_all piece (next ∷ pieces) = joins piece next

-- each piece ends where the next one begins
abbrev pub well_joined : List Piece → Bool
well_joined [] = true
well_joined (piece ∷ pieces) = (is_gap_piece piece || joins_all piece pieces) && well_joined pieces

-- a name is read as a name, and a literal is a small number
abbrev pub Needs : Piece → Type 0 → Type 0
Needs (token (kinds.Name text)) More = ReadAlone (kinds.Name text) × More
Needs (token (kinds.Literal value)) More = (value < 10000) × More
Needs (token kinds.Stray) More = ⊥
Needs _ More = More

abbrev pub Named : List Piece → Type 0
Named [] = Unit {0}
Named (piece ∷ pieces) = Needs piece (Named pieces)
