use Rattle.std.proofs.Common.{◌≡◌, ◌++◌, drop}
use Rattle.std.specs.List.{flat_map}
use Rattle.run_notes.specs.NextShown.{next_notes}
use Rattle.run_notes.proofs.next_shown.moves_notes.Given as goal

-- the notes so far, with those that are left
abbrev pub invariant-loop-mv : goal.invariant-loop-mv
invariant-loop-mv l =
    l.notes ++ flat_map (next_notes l.p l.st l.makings) (drop l.mv-index l.moves) ≡ flat_map (next_notes l.p l.st l.makings) l.moves
