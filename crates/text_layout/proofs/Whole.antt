-- A text and its layout.
use Rattle.std.proofs.Common.{◌≡◌, ℕ, List, sym, ◌∙◌, subst}
use Rattle.twe_lexer.specs.declared.token.TokenKind.{TokenKind}
use Rattle.text_pieces.specs.declared.piece.Piece.{Piece}
use Rattle.text_pieces.specs.Pieces.{IsCutInto}
use Rattle.text_layout.specs.InLayout.{IsInLayout}
use Rattle.text_layout.specs.Kinds.{HasKinds}
use Rattle.text_layout.specs.Layout.{layout}
use Rattle.text_layout.specs.Settled.{settled_pieces}
use Rattle.text_layout.proofs.Again.{cut_again}
use Rattle.text_layout.proofs.SameKinds.{has_kinds, same_kinds}
use Rattle.text_layout.proofs.Settling.{layout_settled}

pub in_layout : (text written : List ℕ) (pieces : List Piece) → IsCutInto text pieces → written ≡ layout pieces → IsInLayout text written
in_layout text written pieces cut is =
    let again : IsCutInto written (settled_pieces pieces) = subst (λ (its : List ℕ). IsCutInto its (settled_pieces pieces)) (sym is) (cut_again text pieces cut) in record {
      pieces = pieces;
      cut = cut;
      same = is;
      again = again;
      kinds = has_kinds text pieces cut;
      same_kinds = subst (λ (kinds : List TokenKind). HasKinds written kinds) (same_kinds pieces) (has_kinds written (settled_pieces pieces) again);
      stays = layout_settled pieces ∙ sym is;
    }
