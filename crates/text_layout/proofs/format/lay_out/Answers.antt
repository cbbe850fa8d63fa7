use Rattle.std.proofs.Common.{List, ap, ◌∙◌}
use Rattle.text_pieces.specs.declared.piece.Piece.{Piece}
use Rattle.text_layout.specs.Layout.{layout}
use Rattle.text_layout.proofs.Whole.{in_layout}
use Rattle.text_layout.proofs.format.lay_out.Goals as goal

pub returns-clause-laid_out : goal.returns-clause-laid_out
returns-clause-laid_out c =
    in_layout c.args.text.now c.in_ok-layout_text.field-0 c.in_ok-pieces.pieces c.in_ok-pieces.ensures.pieces
    (c.in_ok-layout_text.ensures ∙ ap (λ (pieces : List Piece). layout pieces) c.as_slice.ensures)
