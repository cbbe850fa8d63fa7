-- The layout of a text: what stands before each of its pieces.
use Rattle.std.specs.Prelude.{ℕ, ◌+◌, ◌-◌, ◌*◌, nat_lt, min, Bool, true, false, not, ◌&&◌, ◌||◌, List, [], ◌∷◌, ◌++◌, length, replicate, if◌then◌else◌}
use Rattle.twe_base.specs.Language.{max_open_brackets}
use Rattle.twe_lexer.specs.declared.fixed.Fixed.TheVariants as fixed
use Rattle.text_pieces.specs.declared.piece.Class.{Class}
use Rattle.text_pieces.specs.declared.piece.Class.TheVariants as classes
use Rattle.text_pieces.specs.declared.piece.Piece.{Piece}
use Rattle.text_pieces.specs.declared.piece.PieceStart.{PieceStart}
use Rattle.text_pieces.specs.declared.piece.PieceStart.TheVariants.{Beside, Apart}
use Rattle.text_layout.specs.declared.gap.Gap.{Gap}
use Rattle.text_layout.specs.declared.gap.Gap.TheVariants.{Nothing, Space, Line, LineApart}
use Rattle.text_layout.specs.declared.state.LayoutState.{LayoutState}
use Rattle.text_layout.specs.Classes.{is_comment_class, is_line_comment_class, is_open_brace, is_close_brace, is_close_paren, is_comma, is_else, is_clause, precedes_statement, is_glued}
use Rattle.text_layout.specs.Fitting.{fits_block, fits_summary}

-- the columns that a block on one line and a summary on one line have at most
abbrev pub width : ℕ
width = 100

-- the bytes of a gap
abbrev pub gap_bytes : Gap → List ℕ
gap_bytes Nothing = []
gap_bytes Space = 32 ∷ []
gap_bytes (Line indent) = 10 ∷ replicate indent 32
gap_bytes (LineApart indent) = 10 ∷ 10 ∷ replicate indent 32

-- a line ends in the gap
abbrev pub is_line : Gap → Bool
is_line Nothing = false
is_line Space = false
is_line (Line indent) = true
is_line (LineApart indent) = true

-- the gap is a space
abbrev pub is_space : Gap → Bool
is_space Space = true
is_space _ = false

-- the piece began on the line of the one before it
abbrev pub is_beside : PieceStart → Bool
is_beside Beside = true
is_beside _ = false

-- the piece began after an empty line
abbrev pub is_apart : PieceStart → Bool
is_apart Apart = true
is_apart _ = false

-- before the first piece
abbrev pub before_pieces : LayoutState
before_pieces = record {
  begun = false;
  piece = classes.Fixed fixed.Semicolon;
  earlier = classes.Fixed fixed.Semicolon;
  last = classes.Fixed fixed.Semicolon;
  led = false;
  depth = 0;
  flat = 0;
  wide = false;
  room = width;
}

-- A statement, a declaration or the end of a block begins with the next token. `else` goes on with a statement.
abbrev pub begins : LayoutState → Class → Bool
begins state class = precedes_statement state.last && not (is_else class)

-- the spaces before a piece that begins a line: two for each open block, and four more within a statement or a declaration
abbrev pub indent_of : LayoutState → Class → ℕ
indent_of state class =
    let depth = if is_close_brace class then state.depth - 1 else state.depth in
    if precedes_statement state.last then 2 * depth else 2 * depth + 4

-- A new line. An empty line before it is kept between two statements or declarations, but not at the end of a block, and not
-- directly after its `{`.
abbrev pub new_line : LayoutState → Piece → Gap
new_line state piece =
    if is_apart piece.start && (begins state piece.class && not (is_open_brace state.piece) && not (is_close_brace piece.class))
    then LineApart (indent_of state piece.class) else Line (indent_of state piece.class)

-- What begins with the first of the pieces stays on the line that was begun: it is within a block that does, or a block begins
-- with it that is empty, or that was begun on the line of its `{` and fits.
abbrev pub stays : LayoutState → Piece → List Piece → Bool
stays state piece pieces =
    if nat_lt 0 state.flat then true
    else if not (is_open_brace state.last) then false
    else (is_close_brace piece.class || (is_beside piece.start && fits_block state.earlier state.last 0 state.room pieces))

-- the clauses of the summary, of which the first or a further one begins here, stand one below the other
abbrev pub is_wide : LayoutState → List Piece → Bool
is_wide state pieces =
    if is_close_paren state.last then not (fits_summary state.earlier state.last state.room pieces) else state.wide

-- what stands before a token within a statement or a declaration
abbrev pub summary_gap : LayoutState → Class → List Piece → Gap
summary_gap state class pieces =
    if is_clause class then (if is_wide state pieces then Line (2 * state.depth + 4) else Space)
    else if state.wide && is_comma state.last then Line (2 * state.depth + 6)
    else if is_glued state.earlier state.last class then Nothing else Space

-- what stands between two tokens
abbrev pub token_gap : LayoutState → Piece → List Piece → Gap
token_gap state piece pieces =
    if not (begins state piece.class) then summary_gap state piece.class pieces
    else if stays state piece pieces then Space else new_line state piece

-- What stands before the first of the pieces. A line ends after a comment to the end of its line. A comment stands on a line of
-- its own, or behind what comes before it, as it did. What comes after another comment stays beside it if it was there, but no
-- statement begins behind a comment that stands behind another one.
abbrev pub gap_before : LayoutState → Piece → List Piece → Gap
gap_before state piece pieces =
    if not state.begun then Nothing
    else if is_line_comment_class state.piece then new_line state piece
    else if is_comment_class piece.class then (if is_beside piece.start then Space else new_line state piece)
    else if is_comment_class state.piece then
    (if is_beside piece.start && not (begins state piece.class && (state.led || is_close_brace piece.class)) then Space
    else new_line state piece)
    else token_gap state piece pieces

-- how many blocks are open after a token; no tree has more than the most brackets
abbrev pub depth_after : ℕ → Class → ℕ
depth_after depth class =
    if is_open_brace class then min depth (max_open_brackets - 1) + 1 else if is_close_brace class then depth - 1 else depth

-- A block that stays on its line ends once fewer blocks are open than at its beginning.
abbrev pub flat_after : LayoutState → Gap → Class → ℕ
flat_after state gap class =
    if nat_lt 0 state.flat then (if nat_lt (depth_after state.depth class) state.flat then 0 else state.flat)
    else if is_space gap && is_open_brace state.piece && not (is_comment_class class) && not (is_close_brace class) then state.depth
    else 0

-- the parts of the summary stand one below the other
abbrev pub wide_after : LayoutState → Gap → Class → Bool
wide_after state gap class =
    if is_open_brace class then false
    else if is_clause class && is_close_paren state.last then is_line gap else state.wide

-- the columns that are left after a piece of this length
abbrev pub room_after : ℕ → Gap → ℕ → ℕ
room_after room Nothing len = room - len
room_after room Space len = room - 1 - len
room_after room (Line indent) len = width - indent - len
room_after room (LineApart indent) len = width - indent - len

-- after a piece that was written behind this gap
abbrev pub after_piece : LayoutState → Gap → Piece → LayoutState
after_piece state gap piece = record {
  begun = true;
  piece = piece.class;
  earlier = if is_comment_class piece.class then state.earlier else state.last;
  last = if is_comment_class piece.class then state.last else piece.class;
  led = not (is_comment_class piece.class) || (state.led && not (is_line gap));
  depth = depth_after state.depth piece.class;
  flat = flat_after state gap piece.class;
  wide = wide_after state gap piece.class;
  room = room_after state.room gap (length piece.bytes);
}

-- the rest of the text: each piece behind its gap, and the end of the last line
abbrev pub layout_from : LayoutState → List Piece → List ℕ
layout_from state [] = if state.begun then 10 ∷ [] else []
layout_from state (piece ∷ pieces) =
    let gap = gap_before state piece (piece ∷ pieces) in
    gap_bytes gap ++ (piece.bytes ++ layout_from (after_piece state gap piece) pieces)

-- the text in which these pieces are laid out
abbrev pub layout : List Piece → List ℕ
layout pieces = layout_from before_pieces pieces
