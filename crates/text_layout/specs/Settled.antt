-- The pieces of a text that was laid out.
use Rattle.std.specs.Prelude.{List, [], ◌∷◌}
use Rattle.text_pieces.specs.declared.piece.Piece.{Piece}
use Rattle.text_pieces.specs.declared.piece.PieceStart.{PieceStart}
use Rattle.text_pieces.specs.declared.piece.PieceStart.TheVariants.{Beside, Below, Apart}
use Rattle.text_layout.specs.declared.gap.Gap.{Gap}
use Rattle.text_layout.specs.declared.gap.Gap.TheVariants.{Nothing, Space, Line, LineApart}
use Rattle.text_layout.specs.declared.state.LayoutState.{LayoutState}
use Rattle.text_layout.specs.Layout.{before_pieces, gap_before, after_piece}

-- where a piece begins behind this gap
abbrev pub start_behind : Gap → PieceStart
start_behind Nothing = Beside
start_behind Space = Beside
start_behind (Line indent) = Below
start_behind (LineApart indent) = Apart

-- the piece, with another beginning
abbrev pub begun_at : PieceStart → Piece → Piece
begun_at start piece = record { bytes = piece.bytes; class = piece.class; start = start }

-- the rest of the pieces, each where the layout begins it
abbrev pub settled_from : LayoutState → List Piece → List Piece
settled_from state [] = []
settled_from state (piece ∷ pieces) =
    let gap = gap_before state piece (piece ∷ pieces) in
    begun_at (start_behind gap) piece ∷ settled_from (after_piece state gap piece) pieces

-- the same pieces, each where the layout begins it
abbrev pub settled_pieces : List Piece → List Piece
settled_pieces pieces = settled_from before_pieces pieces
