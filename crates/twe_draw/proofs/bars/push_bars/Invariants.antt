use Rattle.std.proofs.Common.{◌≡◌, ◌++◌, take}
use Rattle.std.specs.List.{flat_map}
use Rattle.twe_draw.specs.Bars.{bar_shown}
use Rattle.twe_draw.proofs.bars.push_bars.Given as goal

-- the bars up to here were written
abbrev pub invariant-loop-bar : goal.invariant-loop-bar
invariant-loop-bar l = l.text ≡ l.fn.text ++ flat_map (bar_shown l.p l.tasks l.bars l.rows l.axis) (take l.bar-index l.bars)
