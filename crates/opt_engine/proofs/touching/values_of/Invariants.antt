use Rattle.std.proofs.Common.{◌≡◌, map, take}
use Rattle.opt_engine.specs.inner.Noting.{value_at}
use Rattle.opt_engine.proofs.touching.values_of.Given as goal

abbrev pub invariant-loop-cell : goal.invariant-loop-cell
invariant-loop-cell l = l.values ≡ map (value_at l.cells) (take l.cell-index l.written)
