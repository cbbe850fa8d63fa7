use Rattle.std.proofs.Common.{◌≡◌, ◌++◌, take}
use Rattle.std.specs.List.{flat_map}
use Rattle.twe_draw.specs.Bars.{row_shown}
use Rattle.twe_draw.proofs.bars.push_rows.Given as goal

-- the rows up to here were written
abbrev pub invariant-loop-row : goal.invariant-loop-row
invariant-loop-row l = l.text ≡ l.fn.text ++ flat_map (row_shown l.p l.rows) (take l.row-index l.tasks)
