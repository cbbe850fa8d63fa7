use Rattle.std.proofs.Common.{◌≡◌, map, take}
use Rattle.seg_journal.specs.Spelling.{move_of}
use Rattle.seg_journal.proofs.journal.moves_of.Given as goal

abbrev pub invariant-loop-entry : goal.invariant-loop-entry
invariant-loop-entry l = l.moves ≡ map move_of (take l.entry-index l.entries)
