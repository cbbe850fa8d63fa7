-- What fits on a line that was begun.
use Rattle.std.specs.Prelude.{ℕ, ◌+◌, ◌-◌, ◌==◌, nat_le, nat_lt, Bool, true, false, not, ◌&&◌, ◌||◌, List, [], ◌∷◌, length, if◌then◌else◌}
use Rattle.text_pieces.specs.declared.piece.Class.{Class}
use Rattle.text_pieces.specs.declared.piece.Piece.{Piece}
use Rattle.text_layout.specs.Classes.{is_comment_class, is_open_brace, is_close_brace, is_glued}

-- so many columns have room for the piece, beside the last two tokens
abbrev pub has_room : Class → Class → ℕ → Piece → Bool
has_room earlier last room piece =
    if is_glued earlier last piece.class then nat_le (length piece.bytes) room else nat_lt (length piece.bytes) room

-- the columns that are left after the piece
abbrev pub room_beside : Class → Class → ℕ → Piece → ℕ
room_beside earlier last room piece =
    if is_glued earlier last piece.class then room - length piece.bytes else room - 1 - length piece.bytes

-- how many blocks are open after the piece
abbrev pub blocks_after : ℕ → Class → ℕ
blocks_after opened class = if is_open_brace class then opened + 1 else if is_close_brace class then opened - 1 else opened

-- The tokens up to the `}` that ends the block have room, and there is no comment among them. `opened` is how many blocks were
-- opened within it.
abbrev pub fits_block : Class → Class → ℕ → ℕ → List Piece → Bool
fits_block earlier last opened room [] = false
fits_block earlier last opened room (piece ∷ pieces) =
    if is_comment_class piece.class || not (has_room earlier last room piece) then false
    else if is_close_brace piece.class && (opened == 0) then true
    else fits_block last piece.class (blocks_after opened piece.class) (room_beside earlier last room piece) pieces

-- the tokens up to the `{` of the body have room, and there is no comment among them
abbrev pub fits_summary : Class → Class → ℕ → List Piece → Bool
fits_summary earlier last room [] = false
fits_summary earlier last room (piece ∷ pieces) =
    if is_comment_class piece.class || not (has_room earlier last room piece) then false
    else if is_open_brace piece.class then true
    else fits_summary last piece.class (room_beside earlier last room piece) pieces
