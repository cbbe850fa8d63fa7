-- What the crews of rounds keep.
use Rattle.std.specs.Prelude.{◌≡◌, false, List, [], ◌∷◌}
use Rattle.seg_journal.specs.declared.journal.Entry.{Entry}
use Rattle.machine_state.specs.Runs.{is_fault}

-- no entry ends in a fault
abbrev pub NoFaults : List Entry → Type 0
NoFaults [] = Unit {0}
NoFaults (entry ∷ entries) = (is_fault entry.end ≡ false) × NoFaults entries
