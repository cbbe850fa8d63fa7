use Rattle.std.proofs.Common.{◌≡◌, ◌++◌, take}
use Rattle.span_profile.specs.inner.Deeds.{write_keys}
use Rattle.span_profile.proofs.keys.push_writes.Given as goal

-- the keys of the cells up to here were added
abbrev pub invariant-loop-cell : goal.invariant-loop-cell
invariant-loop-cell l = l.keys ≡ l.initial.keys ++ write_keys l.places (take l.cell-index l.cells)
