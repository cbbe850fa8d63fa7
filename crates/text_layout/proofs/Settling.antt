-- A text that was laid out stays as it is.
use Rattle.std.proofs.Common.{◌≡◌, ℕ, ◌+◌, ◌*◌, Bool, true, false, not, ◌&&◌, ◌||◌, List, [], ◌∷◌, ◌++◌, refl, ap, ◌∙◌}
use Rattle.std.specs.Prelude.{nat_lt, ◌==◌, map, if◌then◌else◌}
use Rattle.text_pieces.specs.declared.piece.Class.{Class}
use Rattle.text_pieces.specs.declared.piece.Piece.{Piece}
use Rattle.text_pieces.specs.declared.piece.PieceStart.{PieceStart}
use Rattle.text_pieces.specs.declared.piece.PieceStart.TheVariants.{Beside, Below, Apart}
use Rattle.text_layout.specs.declared.gap.Gap.{Gap}
use Rattle.text_layout.specs.declared.gap.Gap.TheVariants.{Nothing, Space, Line, LineApart}
use Rattle.text_layout.specs.declared.state.LayoutState.{LayoutState}
use Rattle.text_layout.specs.Classes.{is_comment_class, is_line_comment_class, is_open_brace, is_close_brace, is_close_paren, is_comma, is_clause, is_glued}
use Rattle.text_layout.specs.Fitting.{has_room, room_beside, blocks_after, fits_block, fits_summary}
use Rattle.text_layout.specs.Layout.{gap_bytes, is_beside, is_apart, before_pieces, begins, indent_of, gap_before, after_piece, layout_from, layout}
use Rattle.text_layout.specs.Settled.{start_behind, begun_at, settled_from, settled_pieces}

-- what fits does not depend on where pieces begin
block_settled : (state : LayoutState) (earlier last : Class) (opened room : ℕ) (pieces : List Piece) → fits_block earlier last opened room (settled_from state pieces) ≡ fits_block earlier last opened room pieces
block_settled state earlier last opened room [] = refl
block_settled state earlier last opened room (piece ∷ pieces) =
    ap (λ more. if is_comment_class piece.class || not (has_room earlier last room piece) then false else if is_close_brace piece.class && (opened == 0) then true else more)
    (block_settled (after_piece state (gap_before state piece (piece ∷ pieces)) piece) last piece.class (blocks_after opened piece.class) (room_beside earlier last room piece) pieces)

summary_settled : (state : LayoutState) (earlier last : Class) (room : ℕ) (pieces : List Piece) → fits_summary earlier last room (settled_from state pieces) ≡ fits_summary earlier last room pieces
summary_settled state earlier last room [] = refl
summary_settled state earlier last room (piece ∷ pieces) =
    ap (λ more. if is_comment_class piece.class || not (has_room earlier last room piece) then false else if is_open_brace piece.class then true else more)
    (summary_settled (after_piece state (gap_before state piece (piece ∷ pieces)) piece) last piece.class (room_beside earlier last room piece) pieces)

-- a new line: `apart` is whether an empty line may come before it
abbrev pub line_at : Bool → ℕ → PieceStart → Gap
line_at apart indent start = if is_apart start && apart then LineApart indent else Line indent

-- the gap, by the answers to what is asked of the state and the piece
abbrev pub gap_by : (begun behind_line comment behind low begins flat opened closes fits apart : Bool) (indent : ℕ) (within : Gap) → PieceStart → Gap
gap_by begun behind_line comment behind low begins flat opened closes fits apart indent within start =
    if not begun then Nothing
    else if behind_line then line_at apart indent start
    else if comment then (if is_beside start then Space else line_at apart indent start)
    else if behind then (if is_beside start && not low then Space else line_at apart indent start)
    else if not begins then within
    else if (if flat then true else if not opened then false else (closes || (is_beside start && fits))) then Space
    else line_at apart indent start

-- the piece begins as the gap says, so the gap is the same again
gap_settles : (begun behind_line comment behind low begins flat opened closes fits apart : Bool) (indent : ℕ) (within : Gap) (start : PieceStart) →
    gap_by begun behind_line comment behind low begins flat opened closes fits apart indent within (start_behind (gap_by begun behind_line comment behind low begins flat opened closes fits apart indent within start))
    ≡ gap_by begun behind_line comment behind low begins flat opened closes fits apart indent within start
gap_settles false lc cm pc low bg fl ob cb fi k n sg start = refl
gap_settles true true cm pc low bg fl ob cb fi k n sg Beside = refl
gap_settles true true cm pc low bg fl ob cb fi k n sg Below = refl
gap_settles true true cm pc low bg fl ob cb fi true n sg Apart = refl
gap_settles true true cm pc low bg fl ob cb fi false n sg Apart = refl
gap_settles true false true pc low bg fl ob cb fi k n sg Beside = refl
gap_settles true false true pc low bg fl ob cb fi k n sg Below = refl
gap_settles true false true pc low bg fl ob cb fi true n sg Apart = refl
gap_settles true false true pc low bg fl ob cb fi false n sg Apart = refl
gap_settles true false false true true bg fl ob cb fi k n sg Beside = refl
gap_settles true false false true true bg fl ob cb fi k n sg Below = refl
gap_settles true false false true true bg fl ob cb fi true n sg Apart = refl
gap_settles true false false true true bg fl ob cb fi false n sg Apart = refl
gap_settles true false false true false bg fl ob cb fi k n sg Beside = refl
gap_settles true false false true false bg fl ob cb fi k n sg Below = refl
gap_settles true false false true false bg fl ob cb fi true n sg Apart = refl
gap_settles true false false true false bg fl ob cb fi false n sg Apart = refl
gap_settles true false false false low false fl ob cb fi k n sg start = refl
gap_settles true false false false low true true ob cb fi k n sg start = refl
gap_settles true false false false low true false false cb fi k n sg Beside = refl
gap_settles true false false false low true false false cb fi k n sg Below = refl
gap_settles true false false false low true false false cb fi true n sg Apart = refl
gap_settles true false false false low true false false cb fi false n sg Apart = refl
gap_settles true false false false low true false true true fi k n sg start = refl
gap_settles true false false false low true false true false true k n sg Beside = refl
gap_settles true false false false low true false true false true k n sg Below = refl
gap_settles true false false false low true false true false true true n sg Apart = refl
gap_settles true false false false low true false true false true false n sg Apart = refl
gap_settles true false false false low true false true false false k n sg Beside = refl
gap_settles true false false false low true false true false false k n sg Below = refl
gap_settles true false false false low true false true false false true n sg Apart = refl
gap_settles true false false false low true false true false false false n sg Apart = refl

abbrev pub within_by : LayoutState → Class → Bool → Gap
within_by state class fits =
    if is_clause class then (if (if is_close_paren state.last then not fits else state.wide) then Line (2 * state.depth + 4) else Space)
    else if state.wide && is_comma state.last then Line (2 * state.depth + 6)
    else if is_glued state.earlier state.last class then Nothing else Space

-- the gap before a piece, by whether a block and a summary fit
abbrev gap_of : LayoutState → Class → PieceStart → Bool → Bool → Gap
gap_of state class start block summary =
    gap_by state.begun (is_line_comment_class state.piece) (is_comment_class class) (is_comment_class state.piece) (begins state class && (state.led || is_close_brace class))
    (begins state class) (nat_lt 0 state.flat) (is_open_brace state.last) (is_close_brace class) block
    (begins state class && not (is_open_brace state.piece) && not (is_close_brace class)) (indent_of state class) (within_by state class summary) start

gap_is : (state : LayoutState) (piece : Piece) (pieces : List Piece) →
    gap_before state piece pieces ≡ gap_of state piece.class piece.start (fits_block state.earlier state.last 0 state.room pieces) (fits_summary state.earlier state.last state.room pieces)
gap_is state piece pieces = refl

pub same_gap : (state : LayoutState) (piece : Piece) (pieces : List Piece) →
    gap_before state (begun_at (start_behind (gap_before state piece (piece ∷ pieces))) piece) (settled_from state (piece ∷ pieces)) ≡ gap_before state piece (piece ∷ pieces)
same_gap state piece pieces =
    let gap = gap_before state piece (piece ∷ pieces) in
    let block = fits_block state.earlier state.last 0 state.room (piece ∷ pieces) in
    let summary = fits_summary state.earlier state.last state.room (piece ∷ pieces) in
    ap (λ fits. gap_of state piece.class (start_behind gap) fits (fits_summary state.earlier state.last state.room (settled_from state (piece ∷ pieces)))) (block_settled state state.earlier state.last 0 state.room (piece ∷ pieces))
    ∙ ap (λ fits. gap_of state piece.class (start_behind gap) block fits) (summary_settled state state.earlier state.last state.room (piece ∷ pieces))
    ∙ gap_settles state.begun (is_line_comment_class state.piece) (is_comment_class piece.class) (is_comment_class state.piece) (begins state piece.class && (state.led || is_close_brace piece.class))
    (begins state piece.class) (nat_lt 0 state.flat) (is_open_brace state.last) (is_close_brace piece.class) block
    (begins state piece.class && not (is_open_brace state.piece) && not (is_close_brace piece.class)) (indent_of state piece.class) (within_by state piece.class summary) piece.start

layout_from_settled : (state : LayoutState) (pieces : List Piece) → layout_from state (settled_from state pieces) ≡ layout_from state pieces
layout_from_settled state [] = refl
layout_from_settled state (piece ∷ pieces) =
    let gap = gap_before state piece (piece ∷ pieces) in
    let those = settled_from (after_piece state gap piece) pieces in
    ap (λ its. gap_bytes its ++ (piece.bytes ++ layout_from (after_piece state its piece) those)) (same_gap state piece pieces)
    ∙ ap (λ rest. gap_bytes gap ++ (piece.bytes ++ rest)) (layout_from_settled (after_piece state gap piece) pieces)

pub layout_settled : (pieces : List Piece) → layout (settled_pieces pieces) ≡ layout pieces
layout_settled pieces = layout_from_settled before_pieces pieces

bytes_from : (state : LayoutState) (pieces : List Piece) → map (λ piece. piece.bytes) (settled_from state pieces) ≡ map (λ piece. piece.bytes) pieces
bytes_from state [] = refl
bytes_from state (piece ∷ pieces) = ap (λ more. piece.bytes ∷ more) (bytes_from (after_piece state (gap_before state piece (piece ∷ pieces)) piece) pieces)

pub same_bytes : (pieces : List Piece) → map (λ piece. piece.bytes) (settled_pieces pieces) ≡ map (λ piece. piece.bytes) pieces
same_bytes pieces = bytes_from before_pieces pieces
