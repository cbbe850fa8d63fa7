use Rattle.std.proofs.Common.{◌≡◌, ◌≤◌, drop}
use Rattle.text_layout.specs.Fitting.{fits_block}
use Rattle.text_layout.proofs.fitting.fits_block.Given as goal

abbrev pub invariant-loop-piece : goal.invariant-loop-piece
invariant-loop-piece l = record {
  few : l.opened ≤ l.piece-index;
  same : fits_block l.fn.earlier l.fn.last 0 l.fn.room l.fn.pieces ≡ fits_block l.earlier l.last l.opened l.room (drop l.piece-index l.pieces);
}
