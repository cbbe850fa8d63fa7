use Rattle.std.proofs.Common.{◌≡◌, ◌++◌, drop}
use Rattle.machine_state.specs.Moves.{initial_values}
use Rattle.twe_machine.proofs.first_state.initial_values.Given as goal

abbrev pub invariant-loop-cell : goal.invariant-loop-cell
invariant-loop-cell l = l.values ++ initial_values (drop l.cell-index l.cells) ≡ initial_values l.cells
