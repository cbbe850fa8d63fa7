use Rattle.std.proofs.Common.{◌≡◌, ◌++◌, take}
use Rattle.std.specs.List.{flat_map}
use Rattle.twe_draw.specs.Arrows.{arrows_shown}
use Rattle.twe_draw.proofs.arrows.push_arrows.Given as goal

-- the arrows up to here were written
abbrev pub invariant-loop-bar : goal.invariant-loop-bar
invariant-loop-bar l = l.text ≡ l.fn.text ++ flat_map (arrows_shown l.bars l.rows l.axis) (take l.bar-index l.bars)
