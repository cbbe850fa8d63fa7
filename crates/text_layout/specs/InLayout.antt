-- A text that was laid out.
use Rattle.std.specs.Prelude.{◌≡◌, ℕ, List}
use Rattle.text_pieces.specs.declared.piece.Piece.{Piece}
use Rattle.text_pieces.specs.Pieces.{IsCutInto}
use Rattle.text_layout.specs.Kinds.{piece_kinds, HasKinds}
use Rattle.text_layout.specs.Layout.{layout}
use Rattle.text_layout.specs.Settled.{settled_pieces}

-- What was written is the layout of the pieces of the text. It has the same pieces, each where the layout begins it, and so the
-- same tokens; and it is its own layout.
pub record IsInLayout (text written : List ℕ) : Type 0 where
  pub pieces : List Piece
  pub cut : IsCutInto text pieces
  pub same : written ≡ layout pieces
  pub again : IsCutInto written (settled_pieces pieces)
  pub kinds : HasKinds text (piece_kinds pieces)
  pub same_kinds : HasKinds written (piece_kinds pieces)
  pub stays : layout (settled_pieces pieces) ≡ written
