use Rattle.std.proofs.Common.{◌<◌, ℕ}
use Rattle.seg_journal.specs.declared.moves.Kind.{Kind}
use Rattle.machine_state.specs.Legal.{MayTake}
use Rattle.twe_machine.proofs.lowest_move.lowest_from.Given as goal

abbrev pub invariant-loop-t : goal.invariant-loop-t
invariant-loop-t l = (s : ℕ) → s < l.t → (kind : Kind) → ¬ MayTake l.st kind s
