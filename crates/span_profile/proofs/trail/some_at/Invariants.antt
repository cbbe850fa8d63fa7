use Rattle.std.proofs.Common.{◌≡◌, false, take}
use Rattle.std.specs.Prelude.{◌==◌}
use Rattle.std.specs.List.{list_any}
use Rattle.span_profile.specs.inner.Numbering.{place_of}
use Rattle.span_profile.proofs.trail.some_at.Given as goal

-- no cell up to here is of the place
abbrev pub invariant-loop-cell : goal.invariant-loop-cell
invariant-loop-cell l = list_any (λ cell. place_of l.places cell == l.place) (take l.cell-index l.cells) ≡ false
