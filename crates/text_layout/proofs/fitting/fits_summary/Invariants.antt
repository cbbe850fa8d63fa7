use Rattle.std.proofs.Common.{◌≡◌, drop}
use Rattle.text_layout.specs.Fitting.{fits_summary}
use Rattle.text_layout.proofs.fitting.fits_summary.Given as goal

abbrev pub invariant-loop-piece : goal.invariant-loop-piece
invariant-loop-piece l = fits_summary l.fn.earlier l.fn.last l.fn.room l.fn.pieces ≡ fits_summary l.earlier l.last l.room (drop l.piece-index l.pieces)
