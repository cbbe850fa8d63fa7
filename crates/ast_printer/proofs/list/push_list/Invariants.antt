use Rattle.std.proofs.Common.{◌≡◌, ◌++◌, drop}
use Rattle.ast_printer.specs.Text.{text_of}
use Rattle.ast_printer.specs.inner.Listed.{listed}
use Rattle.ast_printer.proofs.list.push_list.Given as goal

-- what is written, and what is left, are all
abbrev pub invariant-loop-piece : goal.invariant-loop-piece
invariant-loop-piece g l = l.text ++ text_of (listed g.P.Piece.tokens l.separator l.later (drop l.piece-index l.pieces)) ≡ l.fn.text ++ text_of (listed g.P.Piece.tokens l.separator l.fn.later l.pieces)
