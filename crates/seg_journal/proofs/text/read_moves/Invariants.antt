use Rattle.std.proofs.Common.{◌≡◌, ◌+◌, ◌≤◌, ◌++◌, length}
use Rattle.std.specs.List.{flat_map, AllByRecursion}
use Rattle.seg_journal.specs.Spelling.{move_line, HasTask}
use Rattle.seg_journal.proofs.text.read_moves.Given as goal

abbrev pub invariant-loop-rest : goal.invariant-loop-rest
invariant-loop-rest l =
    (l.text ≡ flat_map move_line l.moves ++ l.rest)
    × AllByRecursion HasTask l.moves
    × (length l.moves + length l.rest ≤ length l.text)

abbrev pub decreases-loop-rest : goal.decreases-loop-rest
decreases-loop-rest l = length l.rest
