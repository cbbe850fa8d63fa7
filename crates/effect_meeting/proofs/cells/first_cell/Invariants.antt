use Rattle.std.proofs.Common.{take}
use Rattle.std.specs.List.{All}
use Rattle.effect_meeting.specs.Cells.{IsNeverMet}
use Rattle.effect_meeting.proofs.cells.first_cell.Given as goal

-- the paths meet at no cell of the declarations so far
abbrev pub invariant-loop-number : goal.invariant-loop-number
invariant-loop-number l = All (IsNeverMet l.shared l.first l.second) (take l.number l.cells)
