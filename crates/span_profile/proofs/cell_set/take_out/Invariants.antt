use Rattle.std.proofs.Common.{◌≡◌, ℕ, length, not, take}
use Rattle.std.specs.Prelude.{◌&&◌, slice_get}
use Rattle.span_profile.specs.inner.Sets.{has_found, is_in}
use Rattle.span_profile.proofs.cell_set.take_out.Given as goal

-- the cells up to here are out
abbrev pub invariant-loop-cell : goal.invariant-loop-cell
invariant-loop-cell l = record {
  size : length l.has ≡ length l.initial.has;
  gone : (n : ℕ) → has_found (slice_get l.has n) ≡ (has_found (slice_get l.initial.has n) && not (is_in (take l.cell-index l.cells) n));
}
