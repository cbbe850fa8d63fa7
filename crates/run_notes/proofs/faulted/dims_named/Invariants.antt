use Rattle.std.proofs.Common.{◌≡◌, drop}
use Rattle.run_notes.specs.Faulted.{dims_named}
use Rattle.run_notes.proofs.faulted.dims_named.Given as goal

-- what is found in all of them is found from here on
abbrev pub invariant-loop-cell : goal.invariant-loop-cell
invariant-loop-cell l = dims_named l.word (drop l.cell-index l.cells) ≡ dims_named l.word l.cells
