use Rattle.std.proofs.Common.{◌≡◌, ◌<◌, ℕ, false, Some}
use Rattle.std.specs.Prelude.{slice_get}
use Rattle.span_profile.specs.inner.Trails.{gave_cell}
use Rattle.span_profile.proofs.trail.first_given.Given as goal

-- no cell up to here passes
abbrev pub invariant-loop-cell : goal.invariant-loop-cell
invariant-loop-cell l =
    (i other : ℕ) → i < l.cell-index → slice_get l.cells i ≡ Some other → gave_cell l.fronts l.places l.reads l.number other ≡ false
