use Rattle.std.proofs.Common.{◌≡◌, ◌++◌, take}
use Rattle.std.specs.List.{flat_map}
use Rattle.twe_draw.specs.Bars.{outline}
use Rattle.twe_draw.proofs.bars.push_outlines.Given as goal

-- the outlines up to here were written
abbrev pub invariant-loop-number : goal.invariant-loop-number
invariant-loop-number l = l.text ≡ l.fn.text ++ flat_map (outline l.bars l.rows l.axis) (take l.number-index l.chain)
